-- A book as the plain book, and what a call answers against the plain book's step.
use Rattle.std.specs.Prelude.{◌≡◌, true, is_ok, Ok, Err, Result}
use Rattle.records.specs.declared.refusal.Refusal.{Refusal}
use Rattle.records.specs.declared.refusal.Fault.{Fault}
use Rattle.records.specs.declared.refusal.Fault.TheVariants.{Refused, Memory}
use Rattle.records.specs.Refusals.{seen}
use Rattle.plainbook.specs.Steps.{Held, Outcome, Answer, done}
use Rattle.plainbook.specs.Surveys.{Survey}
use Rattle.survey.specs.declared.book.Book.{Book}
use Rattle.survey.specs.Standing.{standing_legs, standing_circuits}

module _ {Q S : Type 0} where
  abbrev pub surveyed : Book Q S → Survey
  surveyed b = record { legs = standing_legs b.legs; circuits = standing_circuits b.circuits }

  abbrev pub plain_book : Book Q S → Held Q S
  plain_book b = record { quantity = b.quantity; standard = b.standard; survey = surveyed b }

  -- A call answers what the plain book answers, and the book after it is the plain book after its step. Want of memory
  -- comes only where the plain book does not refuse, and changes nothing.
  abbrev pub Answers : {A : Type 0} → (A → Answer) → Outcome Q S → (before after : Held Q S) → Result A Fault → Type 0
  Answers view out before after (Ok a) = (out.answer ≡ Ok (view a)) × (after ≡ out.held)
  Answers view out before after (Err (Refused r)) = (out.answer ≡ Err r) × (after ≡ out.held)
  Answers view out before after (Err Memory) = (is_ok out.answer ≡ true) × (after ≡ before)

  -- the same of a call that allocates nothing
  abbrev pub AnswersAlways : {A : Type 0} → (A → Answer) → Outcome Q S → (after : Held Q S) → Result A Refusal → Type 0
  AnswersAlways view out after r = (seen view r ≡ out.answer) × (after ≡ out.held)

abbrev pub is_done : Unit {0} → Answer
is_done _ = done
