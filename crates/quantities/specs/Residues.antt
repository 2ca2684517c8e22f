-- Arithmetic on the least residues modulo m, each below m.
use Rattle.std.specs.Prelude.{ℕ, suc, ◌+◌, ◌-◌, ◌*◌, ◌/◌, ◌%◌, min, cond, ℤ, pos, negsuc, ◌-ℤ◌, neg_ℤ, ◌≤ℤ◌, nat_le}

abbrev pub residue_plus : (m a b : ℕ) → ℕ
residue_plus m a b = (a + b) % m

abbrev pub residue_opposite : (m a : ℕ) → ℕ
residue_opposite m a = (m - a) % m

-- the shorter way round to zero
abbrev pub residue_size : (m a : ℕ) → ℕ
residue_size m a = min a (m - a)

-- the residue of a whole number
abbrev pub least_residue : ℕ → ℤ → ℕ
least_residue m (pos n) = n % m
least_residue m (negsuc n) = residue_opposite m (suc n % m)

-- the whole number nearest to zero that has the residue a; of two that are as near, the one above zero
abbrev pub signed_form : ℕ → ℕ → ℤ
signed_form m a = cond (nat_le (2 * a) m) (pos a) (pos a -ℤ pos m)

-- the signed forms modulo m: as many above zero as below, and one more above where m is even
abbrev pub SignedRange : ℕ → ℤ → Type 0
SignedRange m z = (neg_ℤ (pos ((m - 1) / 2)) ≤ℤ z) × (z ≤ℤ pos (m / 2))
