-- The lowest number of which something holds.
use Rattle.std.specs.Prelude.{ℕ, ◌<◌, Some, None, Option}

-- P holds of n, and of no number below it; or of no number
abbrev pub Lowest : (ℕ → Type 0) → Option ℕ → Type 0
Lowest P None = (k : ℕ) → P k → ⊥
Lowest P (Some n) = P n × ((k : ℕ) → k < n → P k → ⊥)
