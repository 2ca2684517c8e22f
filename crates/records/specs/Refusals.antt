-- The refusals: for each reason its number and the part that finds it; and the first that applies.
use Rattle.std.specs.Prelude.{◌≡◌, ℕ, true, List, [], ◌∷◌, is_ok, Some, None, Ok, Err, Option, Result}
use Rattle.records.specs.declared.refusal.Part.{Part}
use Rattle.records.specs.declared.refusal.Part.TheVariants.{Words, Quantity, Standard, Book}
use Rattle.records.specs.declared.refusal.Reason.{Reason}
use Rattle.records.specs.declared.refusal.Reason.TheVariants.{Layout, Range, Measure, Observation, Form, Taken, Absent, InUse, Twice, Broken, NoLeg, Loose, NoClass, TooFew}
use Rattle.records.specs.declared.refusal.Refusal.{Refusal}
use Rattle.records.specs.declared.refusal.Fault.{Fault}
use Rattle.records.specs.declared.refusal.Fault.TheVariants.{Refused, Memory}

pub record Row : Type 0 where
  pub number : ℕ
  pub part : Part

abbrev pub row : Reason → Row
row Layout = record { number = 1; part = Words }
row Range = record { number = 2; part = Words }
row Taken = record { number = 3; part = Book }
row Absent = record { number = 4; part = Book }
row InUse = record { number = 5; part = Book }
row Measure = record { number = 6; part = Quantity }
row Observation = record { number = 7; part = Standard }
row Twice = record { number = 8; part = Book }
row Broken = record { number = 9; part = Book }
row Form = record { number = 10; part = Standard }
row NoLeg = record { number = 11; part = Book }
row Loose = record { number = 12; part = Book }
row NoClass = record { number = 13; part = Book }
row TooFew = record { number = 14; part = Book }

-- the refusal for a reason, where it has a place
abbrev pub refusal : Reason → Option ℕ → Option Refusal
refusal reason None = None
refusal reason (Some place) = Some (record { reason = reason; place = place })

-- the first refusal of a list that applies
abbrev pub first : List (Option Refusal) → Option Refusal
first [] = None
first (None ∷ rest) = first rest
first (Some r ∷ rest) = Some r

-- the answer, unless something is refused
abbrev pub unless : {A : Type 0} → Option Refusal → A → Result A Refusal
unless None answer = Ok answer
unless (Some r) answer = Err r

-- a result in code, read by `view`, is the one given
abbrev pub seen : {A B : Type 0} → (A → B) → Result A Refusal → Result B Refusal
seen view (Ok a) = Ok (view a)
seen view (Err r) = Err r

-- the same of a call that allocates: want of memory comes only where there was an answer to give
abbrev pub Gives : {A B : Type 0} → (A → B) → Result B Refusal → Result A Fault → Type 0
Gives view due (Ok a) = due ≡ Ok (view a)
Gives view due (Err (Refused r)) = due ≡ Err r
Gives view due (Err Memory) = is_ok due ≡ true
