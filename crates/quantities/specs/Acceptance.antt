-- When a quantity refuses a leg or a due sum, and at which word of the record.
use Rattle.std.specs.Prelude.{ℕ, Bool, cond, List, [], ◌∷◌, Some, None, Option}
use Rattle.records.specs.declared.refusal.Refusal.{Refusal}
use Rattle.records.specs.declared.refusal.Reason.TheVariants.{Measure}
use Rattle.records.specs.Legs.{LegRecord}
use Rattle.records.specs.Refusals.{refusal}
use Rattle.quantities.specs.Terms.{Terms}

-- the indices of the value and the back value in a leg's words, and of the due sum in a circuit's
abbrev pub value_place : ℕ
value_place = 1

abbrev pub back_place : ℕ
back_place = 4

abbrev pub due_place : ℕ
due_place = 1

abbrev pub unaccepted : Bool → ℕ → Option Refusal
unaccepted accepted place = refusal Measure (cond accepted None (Some place))

-- the value is tried before the back value
abbrev pub measure_refusals : {Element : Type 0} → Terms Element → LegRecord → List (Option Refusal)
measure_refusals q leg =
    unaccepted (q.accepts_value leg.value) value_place ∷ unaccepted (q.accepts_back leg.back) back_place ∷ []

abbrev pub due_refusals : {Element : Type 0} → Terms Element → ℕ → List (Option Refusal)
due_refusals q due = unaccepted (q.accepts_due due) due_place ∷ []
