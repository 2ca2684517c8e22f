-- Which legs a list of words names. Assumes nothing.
use Rattle.std.proofs.Common.{◌≡◌, ℕ, ◌%◌, ◌||◌, eqb, List, [], ◌∷◌, map, refl, ap, ap₂, arith}
use Rattle.std.specs.List.{list_any}
use Rattle.records.specs.Circuits.{use_read}
use Rattle.records.specs.Words.{bits, payload}
use Rattle.plainbook.specs.Surveys.{names}

-- a leg's number is the low byte of its word
pub low_byte : (w : ℕ) → bits 0 8 (payload w) ≡ w % 256
low_byte w = omega arith

pub named_by_byte : (leg : ℕ) (ws : List ℕ) → names leg (map use_read ws) ≡ list_any (λ w. eqb (w % 256) leg) ws
named_by_byte leg [] = refl
named_by_byte leg (w ∷ ws) = ap₂ ◌||◌ (ap (λ n. eqb n leg) (low_byte w)) (named_by_byte leg ws)
