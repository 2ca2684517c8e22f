-- Heights: differences of height in 0.01 mm, with sums modulo 2^64.
use Rattle.std.specs.Prelude.{ℕ, ◌^◌, Bool, true, ◌&&◌, ℤ, pos, ◌+ℤ◌, ◌-ℤ◌, ◌*ℤ◌, neg_ℤ, Some, None, Option, ◌==◌, int_le, refl}
use Rattle.records.specs.Words.{signed}
use Rattle.quantities.specs.Modular.{Measures}

abbrev pub height_modulus : ℕ
height_modulus = 2 ^ 64

-- the greatest height difference of a leg, 500 m, up or down
abbrev pub greatest_height : ℕ
greatest_height = 50000000

abbrev pub accepts_height : ℕ → Bool
accepts_height payload = int_le (neg_ℤ (pos greatest_height)) (signed payload) && int_le (signed payload) (pos greatest_height)

abbrev pub accepts_back_height : Option ℕ → Bool
accepts_back_height None = true
accepts_back_height (Some back) = accepts_height back

-- levelled circuits are due to close at zero
abbrev pub height_due : ℕ
height_due = 0

-- double the mean height difference; a back value is levelled the other way, so its sign is opposite
abbrev pub double_rise : ℕ → Option ℕ → ℤ
double_rise value None = pos 2 *ℤ signed value
double_rise value (Some back) = signed value -ℤ signed back

-- by how much the two runnings of a leg disagree
abbrev pub disagreement : ℕ → Option ℕ → ℤ
disagreement value None = pos 0
disagreement value (Some back) = signed value +ℤ signed back

abbrev pub heights : Measures
heights =
    record {
      accepts_value = accepts_height;
      accepts_back = accepts_back_height;
      accepts_due = λ payload. (payload == height_due);
      contribution = double_rise;
      misclosure = disagreement;
      due = λ payload. pos payload;
      no_back = λ value. refl;
    }
