-- The plain book: what it holds, its calls, and what each does to it.
use Rattle.std.specs.Prelude.{ℕ, List, [], ◌∷◌, ◌++◌, length, drop, Some, None, Ok, Err, Option, Result, nat_eq}
use Rattle.std.specs.Map.{update}
use Rattle.records.specs.declared.refusal.Refusal.{Refusal}
use Rattle.records.specs.Circuits.{CircuitRecord, circuit_read}
use Rattle.records.specs.Legs.{LegRecord, leg_read}
use Rattle.records.specs.Refusals.{first}
use Rattle.quantities.specs.Terms.{Terms}
use Rattle.standards.specs.declared.class.Class.{Class}
use Rattle.standards.specs.Classes.{class_at}
use Rattle.standards.specs.Rules.{Rules}
use Rattle.plainbook.specs.Grades.{Grade, grade}
use Rattle.plainbook.specs.Misses.{survey_misses}
use Rattle.plainbook.specs.Refusals.{enter_refusals, join_refusals, strike_leg_refusals, strike_circuit_refusals, grade_refusals, misses_refusals}
use Rattle.plainbook.specs.Surveys.{Survey}

-- what a book holds
pub record Held (Q S : Type 0) : Type 0 where
  pub quantity : Q
  pub standard : S
  pub survey : Survey

pub data Call (Q S : Type 0) : Type 0 where
  opening : Q → S → Call Q S
  entering : (words : List ℕ) → Call Q S
  joining : (words : List ℕ) → Call Q S
  striking_leg : (number : ℕ) → Call Q S
  striking_circuit : (number : ℕ) → Call Q S
  grading : Call Q S
  listing : (class : ℕ) (words : List ℕ) → Call Q S

pub data Answer : Type 0 where
  done : Answer
  graded : Grade → Answer
  listed : (count : ℕ) → Answer

-- what a call answers, what is held after it, and the caller's words after it
pub record Outcome (Q S : Type 0) : Type 0 where
  pub answer : Result Answer Refusal
  pub held : Held Q S
  pub words : List ℕ

abbrev pub empty : Survey
empty = record { legs = λ _. None; circuits = λ _. None }

abbrev pub with_leg : Survey → ℕ → Option LegRecord → Survey
with_leg p n w = record { legs = update nat_eq p.legs n w; circuits = p.circuits }

abbrev pub with_circuit : Survey → ℕ → Option CircuitRecord → Survey
with_circuit p n w = record { legs = p.legs; circuits = update nat_eq p.circuits n w }

-- the words that misses leaves: its misses, and beyond them what the words held
abbrev pub written : List ℕ → List ℕ → List ℕ
written misses words = misses ++ drop (length misses) words

module _ {Q S : Type 0} where
  abbrev pub opened : Q → S → Held Q S
  opened q s = record { quantity = q; standard = s; survey = empty }

  abbrev pub holding : Held Q S → Survey → Held Q S
  holding h p = record { quantity = h.quantity; standard = h.standard; survey = p }

  -- the first refusal is the answer, and nothing changes; or else the answer, what is held after, and the words after
  abbrev pub unless_refused : Held Q S → (words : List ℕ) → Option Refusal → Answer → Survey → (after : List ℕ) → Outcome Q S
  unless_refused h words None answer p after = record { answer = Ok answer; held = holding h p; words = after }
  unless_refused h words (Some r) answer p after = record { answer = Err r; held = h; words = words }

  module _ {Element : Type 0} (terms : Q → Terms Element) (rules : S → Rules) where
    abbrev pub misses_at : Held Q S → Option Class → List ℕ
    misses_at h None = []
    misses_at h (Some k) = survey_misses (terms h.quantity) (rules h.standard) h.survey k

    abbrev pub step : Call Q S → Held Q S → Outcome Q S
    step (opening q s) h = record { answer = Ok done; held = opened q s; words = [] }
    step (entering ws) h =
        unless_refused h ws (first (enter_refusals (terms h.quantity) (rules h.standard) h.survey ws)) done
        (with_leg h.survey (leg_read ws).number (Some (leg_read ws))) ws
    step (joining ws) h =
        unless_refused h ws (first (join_refusals (terms h.quantity) (rules h.standard) h.survey ws)) done
        (with_circuit h.survey (circuit_read ws).number (Some (circuit_read ws))) ws
    step (striking_leg n) h =
        unless_refused h [] (first (strike_leg_refusals (terms h.quantity) (rules h.standard) h.survey n)) done
        (with_leg h.survey n None) []
    step (striking_circuit n) h =
        unless_refused h [] (first (strike_circuit_refusals (terms h.quantity) (rules h.standard) h.survey n)) done
        (with_circuit h.survey n None) []
    step grading h =
        unless_refused h [] (first (grade_refusals (terms h.quantity) (rules h.standard) h.survey))
        (graded (grade (terms h.quantity) (rules h.standard) h.survey)) h.survey []
    step (listing class ws) h =
        unless_refused h ws (first (misses_refusals (terms h.quantity) (rules h.standard) h.survey class (length ws)))
        (listed (length (misses_at h (class_at class)))) h.survey (written (misses_at h (class_at class)) ws)

    -- a way: calls in turn, from what is held
    abbrev pub run : Held Q S → List (Call Q S) → Held Q S
    run h [] = h
    run h (c ∷ cs) = run (step c h).held cs

    abbrev pub outcomes : Held Q S → List (Call Q S) → List (Outcome Q S)
    outcomes h [] = []
    outcomes h (c ∷ cs) = step c h ∷ outcomes (step c h).held cs
