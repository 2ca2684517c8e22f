-- The legs and the circuits that stand in a book's maps.
use Rattle.std.specs.Prelude.{ℕ, Bool, not, [], is_some, None, Option, ◌==◌}
use Rattle.std.specs.BTreeMap.{BTreeMap}
use Rattle.std.specs.Option.{option_map}
use Rattle.records.specs.declared.circuit.Circuit.{Circuit}
use Rattle.records.specs.declared.leg.Leg.{Leg}
use Rattle.records.specs.Circuits.{CircuitRecord, circuit_record}
use Rattle.records.specs.Legs.{LegRecord, leg_record}
use Rattle.records.specs.Refusals.{first}
use Rattle.plainbook.specs.Refusals.{chain_refusals}
use Rattle.survey.specs.Numbered.{table}

module _ where
  abbrev pub standing_legs : BTreeMap ℕ Leg → ℕ → Option LegRecord
  standing_legs legs = λ n. option_map leg_record (table legs n)

  abbrev pub standing_circuits : BTreeMap ℕ Circuit → ℕ → Option CircuitRecord
  standing_circuits circuits = λ n. option_map circuit_record (table circuits n)

  -- the circuit's legs stand and chain, and none is named twice
  abbrev pub chains_over : BTreeMap ℕ Leg → ℕ → Circuit → Bool
  chains_over legs n c = not (is_some (first (chain_refusals (standing_legs legs) [] None 2 (circuit_record c).legs)))

-- the number is the leg's own
abbrev pub own_leg : ℕ → Leg → Bool
own_leg n l = l.number.value == n

abbrev pub own_circuit : ℕ → Circuit → Bool
own_circuit n c = c.number.value == n
