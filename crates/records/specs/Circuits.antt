-- A circuit's record: what it says, its words, and when words are refused.
use Rattle.std.specs.Prelude.{◌≡◌, ℕ, zero, suc, ◌+◌, ◌*◌, ◌^◌, Bool, true, false, cond, ◌&&◌, List, [], ◌∷◌, map, length, drop, Some, Ok, vec_items, Option, Result, MatchOption, ◌==◌, nat_lt, slice_index}
use Rattle.std.specs.List.{slice_get}
use Rattle.records.specs.declared.circuit.Circuit.{Circuit}
use Rattle.records.specs.declared.circuit.Head.{Head}
use Rattle.records.specs.declared.circuit.LegUse.{LegUse}
use Rattle.records.specs.declared.circuit.Sense.{Sense}
use Rattle.records.specs.declared.circuit.Sense.TheVariants.{Along, Against}
use Rattle.records.specs.declared.refusal.Reason.TheVariants.{Layout, Range}
use Rattle.records.specs.declared.refusal.Refusal.{Refusal}
use Rattle.records.specs.declared.word.Kind.TheVariants as kinds
use Rattle.records.specs.Layouts.{misplaced, circuit_layout}
use Rattle.records.specs.Lowest.{Lowest}
use Rattle.records.specs.Ranges.{is_leg_number, is_circuit_number, is_leg_count}
use Rattle.records.specs.Refusals.{refusal, first, unless}
use Rattle.records.specs.Uses.{use_ranged, use_unranged}
use Rattle.records.specs.Words.{word, payload, bits}

-- a leg as a circuit runs it
pub record UseRecord : Type 0 where
  pub leg : ℕ
  pub sense : Sense

pub record CircuitRecord : Type 0 where
  pub number : ℕ
  pub due : ℕ
  pub legs : List UseRecord

-- what a circuit in code says
abbrev pub use_record : LegUse → UseRecord
use_record u = record { leg = u.leg.value; sense = u.sense }

abbrev pub circuit_record : Circuit → CircuitRecord
circuit_record c = record { number = c.number.value; due = c.due.bits; legs = map use_record (vec_items c.legs) }

-- what a circuit's first two words say
pub record HeadRecord : Type 0 where
  pub number : ℕ
  pub due : ℕ

abbrev pub head_record : Head → HeadRecord
head_record h = record { number = h.number.value; due = h.due.bits }

abbrev pub head_of : CircuitRecord → HeadRecord
head_of c = record { number = c.number; due = c.due }

-- bit 27 of a use is 1 where the leg is run against its direction
abbrev pub sense_bit : Sense → ℕ
sense_bit Along = 0
sense_bit Against = 1

abbrev pub use_word : UseRecord → ℕ
use_word u = word kinds.Use (sense_bit u.sense * 2 ^ 27 + u.leg)

abbrev pub circuit_words : CircuitRecord → List ℕ
circuit_words c = word kinds.Circuit (c.number * 2 ^ 20) ∷ word kinds.Due c.due ∷ map use_word c.legs

abbrev pub use_read : ℕ → UseRecord
use_read w = record { leg = bits 0 8 (payload w); sense = cond (bits 27 1 (payload w) == 1) Against Along }

-- what the words say, where the layout is right
abbrev pub circuit_read : List ℕ → CircuitRecord
circuit_read ws =
    record {
      number = bits 20 8 (payload (slice_index ws 0));
      due = payload (slice_index ws 1);
      legs = map use_read (drop 2 ws);
    }

-- the number is in range, and the bits below it are zero
abbrev pub head_ranged : ℕ → Bool
head_ranged w = is_circuit_number (bits 20 8 (payload w)) && bits 0 20 (payload w) == 0

abbrev pub circuit_unranged : List ℕ → Option ℕ
circuit_unranged ws = cond (head_ranged (slice_index ws 0)) (use_unranged 2 (drop 2 ws)) (Some 0)

-- the word at an index is out of range
abbrev pub Unranged : List ℕ → ℕ → Type 0
Unranged ws zero = head_ranged (slice_index ws 0) ≡ false
Unranged ws (suc zero) = ⊥
Unranged ws (suc (suc i)) = MatchOption (slice_get (drop 2 ws) i) ⊥ (λ w. use_ranged w ≡ false)

-- the index refused is the least that is out of range
abbrev pub LeastUnranged : Type 0
LeastUnranged = (ws : List ℕ) → Lowest (Unranged ws) (circuit_unranged ws)

abbrev pub circuit_refusals : List ℕ → List (Option Refusal)
circuit_refusals ws = refusal Layout (misplaced 0 circuit_layout ws) ∷ refusal Range (circuit_unranged ws) ∷ []

abbrev pub circuit_decoded : List ℕ → Result CircuitRecord Refusal
circuit_decoded ws = unless (first (circuit_refusals ws)) (circuit_read ws)

abbrev pub head_decoded : List ℕ → Result HeadRecord Refusal
head_decoded ws = unless (first (circuit_refusals ws)) (head_of (circuit_read ws))

abbrev pub uses_fit : List UseRecord → Bool
uses_fit [] = true
uses_fit (u ∷ us) = is_leg_number u.leg && uses_fit us

abbrev pub circuit_fits : CircuitRecord → Bool
circuit_fits c =
    is_circuit_number c.number && (nat_lt c.due (2 ^ 28) && (is_leg_count (length c.legs) && uses_fit c.legs))

-- A circuit within the ranges is read back from its words; and words that are read are the words of the circuit that
-- they give, which is within the ranges. So nothing else is accepted, and two circuits never look alike.
abbrev pub CircuitsReadBack : Type 0
CircuitsReadBack =
    ((c : CircuitRecord) → circuit_fits c ≡ true → circuit_decoded (circuit_words c) ≡ Ok c)
    × ((ws : List ℕ) (c : CircuitRecord) → circuit_decoded ws ≡ Ok c → (ws ≡ circuit_words c) × (circuit_fits c ≡ true))
