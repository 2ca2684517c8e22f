-- The worked figures compute. Assumes nothing.
use Rattle.std.proofs.Common.{refl}
use Rattle.plainbook.specs.Figures.{Figures}
use Rattle.plainbook.specs.Surveys.{leg_numbers, circuit_numbers}

pub figures : Figures
unfolding leg_numbers circuit_numbers
figures =
    record {
      leg_on = refl;
      leg_over = refl;
      closure_on = refl;
      closure_over = refl;
      once_9999 = refl;
      once_10000 = refl;
      once_24999 = refl;
      once_25000 = refl;
      angle_over = refl;
      nearly_round = refl;
      over_half = refl;
      averaged = refl;
      words_read = refl;
      back_read = refl;
      uneven_grade = refl;
      uneven_miss = (refl, refl);
      once_grade = refl;
    }
