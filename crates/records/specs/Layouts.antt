-- Layouts: which kind of word stands at each index of a record.
use Rattle.std.specs.Prelude.{◌≡◌, ℕ, suc, true, false, cond, List, [], ◌∷◌, replicate, Some, None, Option, ◌==◌}
use Rattle.std.specs.List.{slice_get}
use Rattle.records.specs.declared.word.Kind.{Kind}
use Rattle.records.specs.declared.word.Kind.TheVariants as kinds
use Rattle.records.specs.declared.word.Slot.{Slot}
use Rattle.records.specs.Words.{kind, kind_number}

abbrev pub must : Kind → Slot
must k = record { kind = k; required = true }

abbrev pub may : Kind → Slot
may k = record { kind = k; required = false }

abbrev pub leg_layout : List Slot
leg_layout = must kinds.Leg ∷ must kinds.Value ∷ must kinds.Length ∷ must kinds.Readings ∷ may kinds.Back ∷ []

abbrev pub circuit_layout : List Slot
circuit_layout = must kinds.Circuit ∷ must kinds.Due ∷ must kinds.Use ∷ replicate 15 (may kinds.Use)

-- the least index, counted from i, at which a word is absent, surplus or of another kind than the layout's
abbrev pub misplaced : ℕ → List Slot → List ℕ → Option ℕ
misplaced i [] [] = None
misplaced i [] (w ∷ ws) = Some i
misplaced i (s ∷ slots) [] = cond s.required (Some i) (misplaced (suc i) slots [])
misplaced i (s ∷ slots) (w ∷ ws) = cond (kind w == kind_number s.kind) (misplaced (suc i) slots ws) (Some i)

-- what a layout and a list of words have at an index, where they have something, breaks the layout
abbrev pub Breaks : Option Slot → Option ℕ → Type 0
Breaks None None = ⊥
Breaks None (Some w) = Unit {0}
Breaks (Some s) None = s.required ≡ true
Breaks (Some s) (Some w) = kind w ≡ kind_number s.kind → ⊥

-- the layout is broken at an index: a word there is surplus, absent or of another kind
abbrev pub Broken : List Slot → List ℕ → ℕ → Type 0
Broken slots ws i = Breaks (slice_get slots i) (slice_get ws i)
