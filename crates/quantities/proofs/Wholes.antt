-- Whole numbers and their least residues: sums, opposites, and the way back.
use Rattle.std.proofs.Common.{◌≡◌, ℕ, zero, suc, ◌+◌, ◌-◌, ◌*◌, ◌/◌, ◌%◌, ◌^◌, ◌<◌, ◌≤◌, leb, ◌⊎◌, ℤ, pos, negsuc, ◌+ℤ◌, ◌-ℤ◌, neg_ℤ, nat_abs, sym, refl, ap, ◌∙◌, inl, inr, mod-lt, mod-eq_of_lt, add-mul, div-add-mod', zero-add, arith, lit<, w64, SFits, of_z}
use native.Mathlib.Nat.{add-mod, add-mul-mod_self_right, zero-mod, sub-zero, mod_self}
use borrow.Author.Differences.{up, down, sum_is_lem, ints}
use Rattle.std.proofs.lemmas.Bool.{cases_lt, cond-true, cond-false, le-leb, lt-leb}
use Rattle.quantities.specs.Residues.{residue_plus, residue_opposite, residue_size, least_residue, signed_form, SignedRange}
use Rattle.quantities.specs.ResidueLaws.{opposite_cases}

-- numbers that differ by multiples of m have one residue
pub same_residue : (m x j y k : ℕ) → x + j * m ≡ y + k * m → x % m ≡ y % m
same_residue m x j y k e = sym (add-mul-mod_self_right x j m) ∙ ap (λ n. n % m) e ∙ add-mul-mod_self_right y k m

module _ (m : ℕ) (positive : 0 < m) where
  -- a whole number, as the difference of its two parts
  difference : ℤ → ℕ
  difference z = up z + (m - down z % m)

  least_difference : (z : ℤ) → least_residue m z ≡ difference z % m
  unfolding difference
  least_difference (pos n) =
      same_residue m n 1 (n + (m - 0 % m)) 0 (omega (arith, zero-mod m))
  least_difference (negsuc n) = ap (λ k. k % m) (sym (zero-add (m - suc n % m)))

  pub least_sum : (a b : ℤ) → least_residue m (a +ℤ b) ≡ residue_plus m (least_residue m a) (least_residue m b)
  unfolding difference
  least_sum a b =
      let s = a +ℤ b in
      let q : ℤ → ℕ = λ z. down z / m in
      let shifted : difference s + (q a + q b + 1) * m ≡ difference a + difference b + q s * m =
      omega (
        arith,
        sum_is_lem a b,
        add-mul (q a + q b) 1 m,
        add-mul (q a) (q b) m,
        div-add-mod' (down a) m,
        div-add-mod' (down b) m,
        div-add-mod' (down s) m,
        mod-lt (down a) positive,
        mod-lt (down b) positive,
        mod-lt (down s) positive,
      ) in
      least_difference s
      ∙ same_residue m (difference s) (q a + q b + 1) (difference a + difference b) (q s) shifted
      ∙ add-mod (difference a) (difference b) m
      ∙ ap (λ n. (n + difference b % m) % m) (sym (least_difference a))
      ∙ ap (λ n. (least_residue m a + n) % m) (sym (least_difference b))

  opposite_of : (r : ℕ) → 0 < r → r < m → residue_opposite m (r % m) ≡ m - r
  opposite_of r above below =
      let left : m - r < m = omega arith in
      ap (residue_opposite m) (mod-eq_of_lt below) ∙ mod-eq_of_lt left

  opposite_twice : (a : ℕ) → a < m → residue_opposite m (residue_opposite m a) ≡ a
  opposite_twice a below =
      let b = residue_opposite m a in
      elim (opposite_cases m positive a below) [
        | inl h ↦ elim (opposite_cases m positive b (mod-lt _ positive)) [
          | inl k ↦ omega (arith, h.0, k.1)
          | inr k ↦ omega (arith, h.1, k.0)
        ]
        | inr h ↦ elim (opposite_cases m positive b (mod-lt _ positive)) [
          | inl k ↦ omega (arith, h.1, k.0)
          | inr k ↦ omega (arith, h.1, k.1)
        ]
      ]

  pub least_opposite : (z : ℤ) → least_residue m (neg_ℤ z) ≡ residue_opposite m (least_residue m z)
  least_opposite (pos zero) =
      zero-mod m ∙ sym (ap (residue_opposite m) (zero-mod m) ∙ ap (λ n. n % m) (sub-zero m) ∙ mod_self m)
  least_opposite (pos (suc n)) = refl
  least_opposite (negsuc n) = sym (opposite_twice (suc n % m) (mod-lt (suc n) positive))

  -- the signed form is above zero up to half of m, and below zero past it
  pub signed_cases : (a : ℕ) → a < m → ((2 * a ≤ m) × (signed_form m a ≡ pos a)) ⊎ ((m < 2 * a) × (signed_form m a ≡ negsuc (m - suc a)))
  signed_cases a below =
      elim (cases_lt m (2 * a)) [
        | inl past ↦ inr (past, cond-false (leb (2 * a) m) (pos a) (pos a -ℤ pos m) (lt-leb (2 * a) m past) ∙ omega (arith, ints))
        | inr upto ↦ inl (upto, cond-true (leb (2 * a) m) (pos a) (pos a -ℤ pos m) (le-leb (2 * a) m upto))
      ]

  pub signed_size : (a : ℕ) → a < m → residue_size m a ≡ nat_abs (signed_form m a)
  signed_size a below =
      elim (signed_cases a below) [
        | inl h ↦ rw h.1 (omega (arith, h.0))
        | inr h ↦ rw h.1 (omega (arith, h.0))
      ]

  pub signed_least : (a : ℕ) → a < m → least_residue m (signed_form m a) ≡ a
  signed_least a below =
      elim (signed_cases a below) [
        | inl h ↦ ap (least_residue m) h.1 ∙ mod-eq_of_lt below
        | inr h ↦
            ap (least_residue m) h.1
            ∙ opposite_of (suc (m - suc a)) (omega arith) (omega (arith, h.0))
            ∙ omega arith
      ]

  -- a whole number below half of m is the signed form of its residue
  pub signed_near : (z : ℤ) → 2 * nat_abs z < m → signed_form m (least_residue m z) ≡ z
  signed_near (pos n) near =
      let below : n < m = omega arith in
      ap (signed_form m) (mod-eq_of_lt below)
      ∙ elim (signed_cases n below) [ inl h ↦ h.1 | inr h ↦ absurd (omega (arith, h.0)) ]
  signed_near (negsuc n) near =
      let below : suc n < m = omega arith in
      let left : m - suc n < m = omega arith in
      ap (signed_form m) (opposite_of (suc n) (omega arith) below)
      ∙ elim (signed_cases (m - suc n) left) [
        | inl h ↦ absurd (omega (arith, h.0))
        | inr h ↦ h.1 ∙ ap negsuc (omega arith)
      ]

  pub signed_range : (a : ℕ) → a < m → SignedRange m (signed_form m a)
  signed_range a below =
      elim (signed_cases a below) [
        | inl h ↦ rw h.1 (omega (arith, ints, h.0), omega (arith, ints, h.0))
        | inr h ↦ rw h.1 (omega (arith, ints, h.0), omega (arith, ints, h.0))
      ]

-- the bits of a signed number of 64 bits, read as an unsigned one
pub bits_least : (z : ℤ) → SFits w64 z → of_z w64 z ≡ least_residue (2 ^ 64) z
bits_least (pos n) fits = sym (mod-eq_of_lt (omega (arith, fits.sfits)))
bits_least (negsuc n) fits = sym (opposite_of (2 ^ 64) (lit< tt) (suc n) (omega arith) (omega (arith, fits.sfits)))
