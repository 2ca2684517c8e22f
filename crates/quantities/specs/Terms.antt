-- What every quantity is: which payloads it accepts, what it makes of them, and the laws that its elements keep.
use Rattle.std.specs.Prelude.{◌≡◌, ℕ, ◌^◌, ◌<◌, Bool, true, None, Option}

pub record Terms (Element : Type 0) : Type 0 where
  -- payloads accepted as value, as back value or its absence, and as due sum
  pub accepts_value : ℕ → Bool
  pub accepts_back : Option ℕ → Bool
  pub accepts_due : ℕ → Bool
  -- what a leg adds to a circuit, and its own misclosure, from its value and back value
  pub contribution : ℕ → Option ℕ → Element
  pub misclosure : ℕ → Option ℕ → Element
  pub due : ℕ → Element
  pub zero : Element
  pub plus : Element → Element → Element
  pub opposite : Element → Element
  pub size : Element → ℕ
  pub plus_assoc : (x y z : Element) → plus (plus x y) z ≡ plus x (plus y z)
  pub plus_comm : (x y : Element) → plus x y ≡ plus y x
  pub plus_zero : (x : Element) → plus x zero ≡ x
  pub plus_opposite : (x : Element) → plus x (opposite x) ≡ zero
  pub size_opposite : (x : Element) → size (opposite x) ≡ size x
  pub size_fits : (x : Element) → size x < 2 ^ 64
  -- a leg that was run once has no misclosure of its own
  pub no_back : (v : ℕ) → accepts_value v ≡ true → accepts_back None ≡ true → misclosure v None ≡ zero
