-- The lowest index of a list at which something holds. Assumes nothing.
use Rattle.std.proofs.Common.{◌≡◌, ℕ, zero, suc, ◌+◌, Some, None, Option, subst, arith}
use Rattle.records.specs.Lowest.{Lowest}

pub lowest_same : {P Q : ℕ → Type 0} → ((k : ℕ) → P k → Q k) → ((k : ℕ) → Q k → P k) → (r : Option ℕ) → Lowest P r → Lowest Q r
lowest_same to from None h = λ k q. h k (from k q)
lowest_same to from (Some n) h = (to n h.0, λ k l q. h.1 k l (from k q))

-- P, with its numbers counted from i
abbrev pub From : ℕ → (ℕ → Type 0) → ℕ → Type 0
From i P n = (k : ℕ) × (n ≡ i + k) × P k

-- one number in front: P fails there, or holds there
pub passed : (i : ℕ) (P : ℕ → Type 0) (r : Option ℕ) → (P 0 → ⊥) → Lowest (From (suc i) (λ k. P (suc k))) r → Lowest (From i P) r
passed i P r none rest = lowest_same (λ n h. (suc h.0, omega (arith, h.1), h.2)) off r rest
  where
    off : (n : ℕ) → From i P n → From (suc i) (λ k. P (suc k)) n
    off n (zero, e, h) = absurd (none h)
    off n (suc k, e, h) = (k, omega (arith, e), h)

pub stopped : (i : ℕ) (P : ℕ → Type 0) → P 0 → Lowest (From i P) (Some i)
stopped i P h = ((0, omega arith, h), λ k l q. let e = q.1 in omega arith)

pub from_zero : (P : ℕ → Type 0) (r : Option ℕ) → Lowest (From 0 P) r → Lowest P r
from_zero P r h = lowest_same (λ n q. let e : q.0 ≡ n = omega (arith, q.1) in subst P e q.2) (λ n p. (n, omega arith, p)) r h
