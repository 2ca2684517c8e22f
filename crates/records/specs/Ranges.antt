-- The ranges of the numbers in a record.
use Rattle.std.specs.Prelude.{ℕ, Bool, cond, ◌&&◌, Some, None, Option, nat_le}

-- from low to high, both counted
abbrev pub between : (low high : ℕ) → ℕ → Bool
between low high n = nat_le low n && nat_le n high

abbrev pub is_leg_number : ℕ → Bool
is_leg_number n = between 1 128 n

abbrev pub is_circuit_number : ℕ → Bool
is_circuit_number n = between 1 32 n

abbrev pub is_node : ℕ → Bool
is_node n = between 1 1023 n

-- how many legs a circuit names
abbrev pub is_leg_count : ℕ → Bool
is_leg_count n = between 1 16 n

-- the number, where it passes the test
abbrev pub passing : (ℕ → Bool) → ℕ → Option ℕ
passing p n = cond (p n) (Some n) None
