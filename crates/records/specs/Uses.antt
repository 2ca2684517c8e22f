-- The words of a circuit's legs: when one is out of range.
use Rattle.std.specs.Prelude.{ℕ, suc, Bool, cond, ◌&&◌, List, [], ◌∷◌, Some, None, Option, ◌==◌}
use Rattle.records.specs.Ranges.{is_leg_number}
use Rattle.records.specs.Words.{payload, bits}

-- the leg number is in range, and the bits between it and the sense are zero
abbrev pub use_ranged : ℕ → Bool
use_ranged w = is_leg_number (bits 0 8 (payload w)) && bits 8 19 (payload w) == 0

-- the least index, counted from i, of a use that is out of range
abbrev pub use_unranged : ℕ → List ℕ → Option ℕ
use_unranged i [] = None
use_unranged i (w ∷ ws) = cond (use_ranged w) (use_unranged (suc i) ws) (Some i)
