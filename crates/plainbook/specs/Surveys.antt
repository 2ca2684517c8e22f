-- What stands in a survey: legs and circuits by number, and how a circuit runs its legs.
use Rattle.std.specs.Prelude.{◌≡◌, ℕ, Bool, false, cond, not, ◌&&◌, ◌||◌, ◌⊎◌, List, [], ◌∷◌, ◌++◌, is_some, Some, None, Option, ◌==◌}
use Rattle.std.specs.List.{range_with_len}
use Rattle.std.specs.Option.{option_to_list}
use Rattle.records.specs.declared.circuit.Sense.{Sense}
use Rattle.records.specs.declared.circuit.Sense.TheVariants.{Along, Against}
use Rattle.records.specs.Circuits.{CircuitRecord, UseRecord}
use Rattle.records.specs.Legs.{LegRecord}

-- the legs and the circuits that stand, each at its number
pub record Survey : Type 0 where
  pub legs : ℕ → Option LegRecord
  pub circuits : ℕ → Option CircuitRecord

-- the numbers that a leg and a circuit can have, in order
unfoldable pub leg_numbers : List ℕ
leg_numbers = range_with_len 1 128

unfoldable pub circuit_numbers : List ℕ
circuit_numbers = range_with_len 1 32

-- a number is in a list
abbrev pub In : ℕ → List ℕ → Type 0
In n [] = ⊥
In n (m ∷ ms) = (n ≡ m) ⊎ In n ms

-- what stands at the numbers given, in their order
abbrev pub standing : {X : Type 0} → (ℕ → Option X) → List ℕ → List X
standing f [] = []
standing f (n ∷ ns) = option_to_list (f n) ++ standing f ns

-- the first of the numbers given that passes the test
abbrev pub first_number : (ℕ → Bool) → List ℕ → Option ℕ
first_number test [] = None
first_number test (n ∷ ns) = cond (test n) (Some n) (first_number test ns)

-- ---- legs as a circuit runs them
-- the nodes where a leg begins and ends, with its sense counted
abbrev pub begins : Sense → LegRecord → ℕ
begins Along l = l.start
begins Against l = l.end

abbrev pub ends : Sense → LegRecord → ℕ
ends Along l = l.end
ends Against l = l.start

-- a leg that stands, with the sense in which it is run
pub record Run : Type 0 where
  pub leg : LegRecord
  pub sense : Sense

abbrev pub run_of : UseRecord → Option LegRecord → Option Run
run_of u None = None
run_of u (Some l) = Some (record { leg = l; sense = u.sense })

-- the legs that are named and stand, in the order in which they are run
abbrev pub runs : (ℕ → Option LegRecord) → List UseRecord → List Run
runs legs [] = []
runs legs (u ∷ us) = option_to_list (run_of u (legs u.leg)) ++ runs legs us

-- where the last leg ends, starting from a node
abbrev pub last_node : ℕ → List Run → ℕ
last_node n [] = n
last_node n (r ∷ rs) = last_node (ends r.sense r.leg) rs

-- the runs end where they begin
abbrev pub closed : List Run → Bool
closed [] = false
closed (r ∷ rs) = begins r.sense r.leg == last_node (ends r.sense r.leg) rs

-- ---- which circuits use a leg
abbrev pub names : ℕ → List UseRecord → Bool
names n [] = false
names n (u ∷ us) = u.leg == n || names n us

abbrev pub circuit_names : ℕ → Option CircuitRecord → Bool
circuit_names n None = false
circuit_names n (Some c) = names n c.legs

-- the circuit c stands and uses the leg n
abbrev pub uses : Survey → ℕ → ℕ → Bool
uses p n c = circuit_names n (p.circuits c)

-- the lowest circuit that uses the leg
abbrev pub user : Survey → ℕ → Option ℕ
user p n = first_number (uses p n) circuit_numbers

-- the leg stands, and no circuit uses it
abbrev pub loose : Survey → ℕ → Bool
loose p n = is_some (p.legs n) && not (is_some (user p n))

abbrev pub loose_leg : Survey → Option ℕ
loose_leg p = first_number (loose p) leg_numbers

abbrev pub any_leg : Survey → Bool
any_leg p = is_some (first_number (λ n. is_some (p.legs n)) leg_numbers)
