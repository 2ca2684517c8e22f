-- The triangulation standard: its table, and what it accepts.
-- Sizes and readings b and c are in 0.01 seconds of arc. A row has the limits of classes 1 to 5.
use Rattle.std.specs.Prelude.{◌&&◌, List, [], ◌∷◌, ◌==◌, nat_le}
use Rattle.std.proofs.Common.{lit≤}
use Rattle.standards.specs.Classes.{row}
use Rattle.standards.specs.Forms.{a_at_least, b_at_most, c_at_most, closure_at_most, closures_at_most_each}
use Rattle.standards.specs.NoWorse.{leg_kind, circuit_kind, whole_kind, more_less_less}
use Rattle.standards.specs.Rules.{Rules}
use Rattle.standards.specs.Tables.{Rule, table_of}

-- positions, standard deviation of the mean, least count
abbrev pub triangulation_leg_rules : List (Rule leg_kind more_less_less)
triangulation_leg_rules =
    a_at_least (row 16 16 12 4 2)
    ∷ b_at_most (row 40 50 80 120 200)
    ∷ c_at_most (row 20 20 100 100 100)
    ∷ []

abbrev pub triangulation_circuit_rules : List (Rule circuit_kind more_less_less)
triangulation_circuit_rules = closure_at_most (row 300 300 500 500 1000) ∷ []

abbrev pub triangulation_whole_rules : List (Rule whole_kind more_less_less)
triangulation_whole_rules = closures_at_most_each (row 100 120 200 300 500) ∷ []

abbrev pub triangulation_rules : Rules
triangulation_rules =
    record {
      directions = more_less_less;
      accepts_length = λ length. (length.metres == 0);
      accepts_readings = λ readings. nat_le 1 readings.a && nat_le 1 readings.c;
      accepts_form = λ form. form.closed && (form.legs == 3);
      legs = table_of triangulation_leg_rules (lit≤ tt);
      circuits = table_of triangulation_circuit_rules (lit≤ tt);
      whole = table_of triangulation_whole_rules (lit≤ tt);
    }
