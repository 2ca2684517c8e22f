-- The same survey, otherwise written: legs or circuits renumbered, a closed circuit begun elsewhere, a circuit turned round.
use Rattle.std.specs.Prelude.{◌≡◌, ℕ, true, List, ◌++◌, map, reverse, is_some, Some, Option, ◌≢◌}
use Rattle.std.specs.Option.{option_map}
use Rattle.records.specs.declared.circuit.Sense.{Sense}
use Rattle.records.specs.declared.circuit.Sense.TheVariants.{Along, Against}
use Rattle.records.specs.Circuits.{CircuitRecord, UseRecord}
use Rattle.records.specs.Legs.{LegRecord}
use Rattle.quantities.specs.Terms.{Terms}
use Rattle.plainbook.specs.Surveys.{Survey, runs, closed}

-- ---- records under another number
abbrev pub renumbered_leg : ℕ → LegRecord → LegRecord
renumbered_leg n l =
    record { number = n; start = l.start; end = l.end; value = l.value; length = l.length; readings = l.readings; back = l.back }

abbrev pub renumbered_circuit : ℕ → CircuitRecord → CircuitRecord
renumbered_circuit n c = record { number = n; due = c.due; legs = c.legs }

-- the numbers change one for one, and nothing else does
pub record OneForOne {A : Type 0} (to : ℕ → ℕ) (change : ℕ → A → A) (f g : ℕ → Option A) : Type 0 where
  pub apart : (m n : ℕ) → is_some (f m) ≡ true → is_some (f n) ≡ true → to m ≡ to n → m ≡ n
  pub there : (n : ℕ) (x : A) → f n ≡ Some x → g (to n) ≡ Some (change (to n) x)
  pub back : (m : ℕ) → is_some (g m) ≡ true → (n : ℕ) × (is_some (f n) ≡ true) × (to n ≡ m)

-- a leg's new number wherever a circuit names it
abbrev pub renamed_use : (ℕ → ℕ) → UseRecord → UseRecord
renamed_use to u = record { leg = to u.leg; sense = u.sense }

abbrev pub renamed_circuit : (ℕ → ℕ) → CircuitRecord → CircuitRecord
renamed_circuit to c = record { number = c.number; due = c.due; legs = map (renamed_use to) c.legs }

pub record LegsRenumbered (to : ℕ → ℕ) (a b : Survey) : Type 0 where
  pub legs : OneForOne to renumbered_leg a.legs b.legs
  pub circuits : (c : ℕ) → b.circuits c ≡ option_map (renamed_circuit to) (a.circuits c)

pub record CircuitsRenumbered (to : ℕ → ℕ) (a b : Survey) : Type 0 where
  pub legs : (n : ℕ) → b.legs n ≡ a.legs n
  pub circuits : OneForOne to renumbered_circuit a.circuits b.circuits

-- ---- one circuit written another way
pub record CircuitRewritten (n : ℕ) (old new : CircuitRecord) (a b : Survey) : Type 0 where
  pub before : a.circuits n ≡ Some old
  pub after : b.circuits n ≡ Some new
  pub others : (m : ℕ) → (m ≢ n) → b.circuits m ≡ a.circuits m
  pub legs : (m : ℕ) → b.legs m ≡ a.legs m

abbrev pub with_legs : CircuitRecord → (due : ℕ) → List UseRecord → CircuitRecord
with_legs c due us = record { number = c.number; due = due; legs = us }

abbrev pub turned_sense : Sense → Sense
turned_sense Along = Against
turned_sense Against = Along

abbrev pub turned_use : UseRecord → UseRecord
turned_use u = record { leg = u.leg; sense = turned_sense u.sense }

-- in the opposite order, each in the opposite sense
abbrev pub turned : List UseRecord → List UseRecord
turned us = reverse (map turned_use us)

-- ---- any mixture of these
pub data Rewriting {Element : Type 0} (q : Terms Element) : Survey → Survey → Type 0 where
  legs_renumbered : {a b : Survey} (to : ℕ → ℕ) → LegsRenumbered to a b → Rewriting q a b
  circuits_renumbered : {a b : Survey} (to : ℕ → ℕ) → CircuitsRenumbered to a b → Rewriting q a b
  -- some of a closed circuit's first legs move, in order, to its end
  begun_elsewhere : {a b : Survey} (n : ℕ) (c : CircuitRecord) (xs ys : List UseRecord) → closed (runs a.legs (xs ++ ys)) ≡ true
      → CircuitRewritten n (with_legs c c.due (xs ++ ys)) (with_legs c c.due (ys ++ xs)) a b → Rewriting q a b
  -- with a due sum that is the opposite
  turned_round : {a b : Survey} (n : ℕ) (c : CircuitRecord) (due : ℕ) → q.due due ≡ q.opposite (q.due c.due)
      → CircuitRewritten n c (with_legs c due (turned c.legs)) a b → Rewriting q a b
  and_then : {a b c : Survey} → Rewriting q a b → Rewriting q b c → Rewriting q a c

-- the new numbers
abbrev pub new_leg : {Element : Type 0} {q : Terms Element} {a b : Survey} → Rewriting q a b → ℕ → ℕ
new_leg (legs_renumbered to e) n = to n
new_leg (circuits_renumbered to e) n = n
new_leg (begun_elsewhere m c xs ys shut e) n = n
new_leg (turned_round m c due opposite e) n = n
new_leg (and_then r s) n = new_leg s (new_leg r n)

abbrev pub new_circuit : {Element : Type 0} {q : Terms Element} {a b : Survey} → Rewriting q a b → ℕ → ℕ
new_circuit (legs_renumbered to e) n = n
new_circuit (circuits_renumbered to e) n = to n
new_circuit (begun_elsewhere m c xs ys shut e) n = n
new_circuit (turned_round m c due opposite e) n = n
new_circuit (and_then r s) n = new_circuit s (new_circuit r n)
