-- The ways in which a table compares: a number against a limit for each class.
use Rattle.std.specs.Prelude.{ℕ, ◌*◌, Bool, true, false, List, nat_le, nat_lt}
use Rattle.records.specs.declared.leg.Running.{Running}
use Rattle.records.specs.declared.leg.Running.TheVariants.{Single, Double}
use Rattle.standards.specs.declared.class.Class.{Class}
use Rattle.standards.specs.Classes.{entry}

abbrev pub limit : List ℕ → Class → ℕ
limit limits k = entry 0 limits k

abbrev pub at_least : ℕ → List ℕ → Class → Bool
at_least x limits k = nat_le (limit limits k) x

abbrev pub at_most : ℕ → List ℕ → Class → Bool
at_most x limits k = nat_le x (limit limits k)

-- no more than the limit for each of n
abbrev pub at_most_each : ℕ → List ℕ → (n : ℕ) → Class → Bool
at_most_each x limits n k = nat_le x (limit limits k * n)

-- x² ≤ factor × k² × metres, where k is the limit
abbrev pub square_at_most : ℕ → (factor : ℕ) → List ℕ → (metres : ℕ) → Class → Bool
square_at_most x factor limits metres k = nat_le (x * x) (factor * (limit limits k * limit limits k) * metres)

abbrev pub less : ℕ → List ℕ → Class → Bool
less x limits k = nat_lt x (limit limits k)

-- a rule for some findings only: it is met where it is not asked
abbrev pub where_asked : Bool → (Class → Bool) → Class → Bool
where_asked true test k = test k
where_asked false test k = true

abbrev pub is_double : Running → Bool
is_double Single = false
is_double Double = true
