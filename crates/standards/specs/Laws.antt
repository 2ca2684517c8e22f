-- What is no worse passes a comparison where the other passes.
use Rattle.std.specs.Prelude.{◌≡◌, ℕ, ◌*◌, ◌≤◌, Bool, true, false, nat_le}
use Rattle.std.proofs.Common.{le_trans}
use Rattle.std.proofs.lemmas.Nat.{mul-le}
use Rattle.std.proofs.lemmas.Bool.{leb-true, le-leb}
use Rattle.standards.specs.declared.class.Class.{Class}
use Rattle.standards.specs.Limits.{where_asked}

pub below : (x y bound : ℕ) → x ≤ y → nat_le y bound ≡ true → nat_le x bound ≡ true
below x y bound h met = le-leb x bound (le_trans h (leb-true y bound met))

pub above : (x y bound : ℕ) → y ≤ x → nat_le bound y ≡ true → nat_le bound x ≡ true
above x y bound h met = le-leb bound x (le_trans (leb-true bound y met) h)

pub square_below : (x y bound : ℕ) → x ≤ y → nat_le (y * y) bound ≡ true → nat_le (x * x) bound ≡ true
square_below x y bound h = below (x * x) (y * y) bound (mul-le x x y y h h)

-- a rule that asks something of some findings only
pub through_asked : (asked : Bool) (p q : Class → Bool) (k : Class) → (p k ≡ true → q k ≡ true)
    → where_asked asked p k ≡ true → where_asked asked q k ≡ true
through_asked true p q k step met = step met
through_asked false p q k step met = met
