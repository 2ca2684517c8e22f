-- The levelling standard: its table, and what it accepts.
-- Sizes are in 0.01 mm, lengths in metres, sights in decimetres. A row has the limits of classes 1 to 5.
use Rattle.std.specs.Prelude.{ℕ, true, List, [], ◌∷◌}
use Rattle.std.proofs.Common.{lit≤}
use Rattle.records.specs.Ranges.{between}
use Rattle.standards.specs.Classes.{row}
use Rattle.standards.specs.Forms.{a_at_least, b_at_most, c_at_most, double_misclosure, closed_closure, open_misclosure, single_length}
use Rattle.standards.specs.NoWorse.{leg_kind, circuit_kind, more_less_less}
use Rattle.standards.specs.Rules.{Rules}
use Rattle.standards.specs.Tables.{Rule, table_of}

-- a limit that nothing is less than
abbrev pub never : ℕ
never = 0

-- method (3 micrometer, 2 three-wire, 1 centre wire), longest sight, difference of sights, own misclosure
abbrev pub level_leg_rules : List (Rule leg_kind more_less_less)
level_leg_rules =
    a_at_least (row 3 3 2 2 1)
    ∷ b_at_most (row 500 600 600 700 900)
    ∷ c_at_most (row 40 100 100 100 100)
    ∷ double_misclosure 10 (row 3 4 6 8 12)
    ∷ []

abbrev pub level_circuit_rules : List (Rule circuit_kind more_less_less)
level_circuit_rules =
    closed_closure 40 (row 4 5 6 8 12)
    ∷ open_misclosure 10 (row 3 4 6 8 12)
    ∷ single_length (row never never never 25000 10000)
    ∷ []

abbrev pub level_rules : Rules
level_rules =
    record {
      directions = more_less_less;
      accepts_length = λ length. between 1 50000 length.metres;
      accepts_readings = λ readings. between 1 3 readings.a;
      accepts_form = λ form. true;
      legs = table_of level_leg_rules (lit≤ tt);
      circuits = table_of level_circuit_rules (lit≤ tt);
      whole = table_of [] (lit≤ tt);
    }
