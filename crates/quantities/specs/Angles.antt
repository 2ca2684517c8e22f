-- Angles: in 0.01 seconds of arc, on a circle of 129,600,000.
use Rattle.std.specs.Prelude.{ℕ, Bool, true, false, pos, Some, None, Option, nat_lt, refl}
use Rattle.records.specs.Ranges.{between}
use Rattle.quantities.specs.Modular.{Measures}

abbrev pub full_circle : ℕ
full_circle = 129600000

-- half a circle, less and more 60 seconds of arc
abbrev pub least_due : ℕ
least_due = 64794000

abbrev pub greatest_due : ℕ
greatest_due = 64806000

abbrev pub accepts_angle : ℕ → Bool
accepts_angle payload = nat_lt payload full_circle

-- an angle is measured once, so a back value is not accepted
abbrev pub accepts_back_angle : Option ℕ → Bool
accepts_back_angle None = true
accepts_back_angle (Some back) = false

abbrev pub angles : Measures
angles =
    record {
      accepts_value = accepts_angle;
      accepts_back = accepts_back_angle;
      accepts_due = between least_due greatest_due;
      contribution = λ value back. pos value;
      misclosure = λ value back. pos 0;
      due = λ payload. pos payload;
      no_back = λ value. refl;
    }
