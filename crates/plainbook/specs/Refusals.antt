-- The refusals of each call, in the order in which they are tried: the first that applies is the answer.
use Rattle.std.specs.Prelude.{ℕ, suc, Bool, false, cond, not, List, [], ◌∷◌, ◌++◌, length, is_some, Some, None, Option, ◌==◌, nat_lt}
use Rattle.std.specs.Option.{option_map}
use Rattle.records.specs.declared.refusal.Reason.{Reason}
use Rattle.records.specs.declared.refusal.Reason.TheVariants.{Range, Taken, Absent, InUse, Twice, Broken, NoLeg, Loose, NoClass, TooFew}
use Rattle.records.specs.declared.refusal.Refusal.{Refusal}
use Rattle.records.specs.Circuits.{UseRecord, circuit_read, circuit_refusals}
use Rattle.records.specs.Legs.{LegRecord, leg_read, leg_refusals}
use Rattle.records.specs.Ranges.{is_leg_number, is_circuit_number}
use Rattle.records.specs.Refusals.{refusal}
use Rattle.quantities.specs.Acceptance.{measure_refusals, due_refusals}
use Rattle.quantities.specs.Terms.{Terms}
use Rattle.standards.specs.declared.class.Class.{Class}
use Rattle.standards.specs.Acceptance.{observation_refusals, form_refusals}
use Rattle.standards.specs.Classes.{class_at}
use Rattle.standards.specs.Rules.{Rules}
use Rattle.plainbook.specs.Findings.{form}
use Rattle.plainbook.specs.Misses.{survey_misses}
use Rattle.plainbook.specs.Surveys.{Survey, Run, runs, run_of, begins, ends, names, user, loose_leg, any_leg}

-- a refusal at a place, where a condition holds
abbrev pub refused_if : Reason → (place : ℕ) → Bool → Option Refusal
refused_if reason place condition = refusal reason (cond condition (Some place) None)

-- where there is no such leg, there is no node to break at
abbrev pub breaks : Option ℕ → Option Run → Bool
breaks None r = false
breaks (Some node) None = false
breaks (Some node) (Some r) = not (node == begins r.sense r.leg)

-- leg by leg: it does not stand, it was named before, it does not begin where the one before it ended
abbrev pub chain_refusals : (legs : ℕ → Option LegRecord) → (before : List UseRecord) → (at : Option ℕ) → (index : ℕ) → List UseRecord → List (Option Refusal)
chain_refusals legs before at index [] = []
chain_refusals legs before at index (u ∷ us) =
    refused_if Absent index (not (is_some (legs u.leg)))
    ∷ refused_if Twice index (names u.leg before)
    ∷ refused_if Broken index (breaks at (run_of u (legs u.leg)))
    ∷ chain_refusals legs (u ∷ before) (option_map (λ r. ends r.sense r.leg) (run_of u (legs u.leg))) (suc index) us

module _ {Element : Type 0} (q : Terms Element) (s : Rules) (p : Survey) where
  abbrev pub enter_refusals : List ℕ → List (Option Refusal)
  enter_refusals ws =
      leg_refusals ws
      ++ (measure_refusals q (leg_read ws)
      ++ (observation_refusals s (leg_read ws) ++ (refused_if Taken 0 (is_some (p.legs (leg_read ws).number)) ∷ [])))

  abbrev pub join_refusals : List ℕ → List (Option Refusal)
  join_refusals ws =
      circuit_refusals ws
      ++ (refused_if Taken 0 (is_some (p.circuits (circuit_read ws).number))
      ∷ (due_refusals q (circuit_read ws).due
      ++ (chain_refusals p.legs [] None 2 (circuit_read ws).legs ++ form_refusals s (form (runs p.legs (circuit_read ws).legs)))))

  abbrev pub strike_leg_refusals : ℕ → List (Option Refusal)
  strike_leg_refusals n =
      refused_if Range 0 (not (is_leg_number n)) ∷ refused_if Absent 0 (not (is_some (p.legs n))) ∷ refusal InUse (user p n) ∷ []

  abbrev pub strike_circuit_refusals : ℕ → List (Option Refusal)
  strike_circuit_refusals n = refused_if Range 0 (not (is_circuit_number n)) ∷ refused_if Absent 0 (not (is_some (p.circuits n))) ∷ []

  abbrev pub grade_refusals : List (Option Refusal)
  grade_refusals = refused_if NoLeg 0 (not (any_leg p)) ∷ refusal Loose (loose_leg p) ∷ []

  -- fewer words than misses: the place is the number of misses
  abbrev pub room_refusal : Option Class → (words : ℕ) → Option Refusal
  room_refusal None words = None
  room_refusal (Some k) words = refused_if TooFew (length (survey_misses q s p k)) (nat_lt words (length (survey_misses q s p k)))

  abbrev pub misses_refusals : (class words : ℕ) → List (Option Refusal)
  misses_refusals class words =
      refused_if NoClass 0 (not (is_some (class_at class))) ∷ (grade_refusals ++ (room_refusal (class_at class) words ∷ []))
