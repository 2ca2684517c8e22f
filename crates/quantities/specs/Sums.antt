-- The legs of a circuit as it runs them, and the sums of what they contribute.
use Rattle.std.specs.Prelude.{ℕ, Bool, true, ◌&&◌, List, [], ◌∷◌, ℤ, pos, ◌+ℤ◌, Option}
use Rattle.records.specs.declared.circuit.Sense.{Sense}
use Rattle.records.specs.declared.circuit.Sense.TheVariants.{Along, Against}
use Rattle.quantities.specs.Terms.{Terms}

-- a leg's value and back value, and which way the circuit runs it
pub record LegRun : Type 0 where
  pub value : ℕ
  pub back : Option ℕ
  pub sense : Sense

-- opposite for a leg run against its direction
abbrev pub as_run : {X : Type 0} → (X → X) → Sense → X → X
as_run opposite Along x = x
as_run opposite Against x = opposite x

abbrev pub whole_sum : List ℤ → ℤ
whole_sum [] = pos 0
whole_sum (z ∷ zs) = z +ℤ whole_sum zs

module _ {Element : Type 0} (q : Terms Element) where
  abbrev pub total : List Element → Element
  total [] = q.zero
  total (x ∷ xs) = q.plus x (total xs)

  abbrev pub all_accepted : List LegRun → Bool
  all_accepted [] = true
  all_accepted (leg ∷ legs) = (q.accepts_value leg.value && q.accepts_back leg.back) && all_accepted legs

  abbrev pub run_contribution : LegRun → Element
  run_contribution leg = as_run q.opposite leg.sense (q.contribution leg.value leg.back)

  -- the same whichever way a leg is run
  abbrev pub run_misclosure : LegRun → Element
  run_misclosure leg = q.misclosure leg.value leg.back
