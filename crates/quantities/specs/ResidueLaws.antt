-- The laws of least residues, each for every modulus above zero.
use Rattle.std.specs.Prelude.{◌≡◌, ℕ, ◌+◌, ◌-◌, ◌%◌, ◌<◌, ◌⊎◌, ℤ, pos, negsuc}
use Rattle.std.proofs.Math.Path.{PathP}
use Rattle.std.proofs.Common.{sym, ap, ◌∙◌, inl, inr, add_assoc, add_comm, add-zero, mod-lt, mod-eq_of_lt, arith}
use mathlib.Core.HLevel.{is_prop→PathP}
use Rattle.std.proofs.Math.Nat.{mod_self, mod-add-mod, add-mod-mod}
use Rattle.std.proofs.Math.Bridge.{le_prop}
use Rattle.std.proofs.lemmas.Bool.{cases_eq}
use Rattle.quantities.specs.Residues.{residue_plus, residue_opposite, residue_size, least_residue}

-- equal numbers are below m in one way only
pub below_along : (m : ℕ) {a b : ℕ} (e : a ≡ b) (p : a < m) (q : b < m) → PathP (λ i. e i < m) p q
below_along m e p q = is_prop→PathP (λ i. e i < m) (λ i. le_prop) p q

module _ (m : ℕ) (positive : 0 < m) where
  pub plus_associates : (a b c : ℕ) → residue_plus m (residue_plus m a b) c ≡ residue_plus m a (residue_plus m b c)
  plus_associates a b c = mod-add-mod (a + b) m c ∙ ap (λ n. n % m) (add_assoc a b c) ∙ sym (add-mod-mod a (b + c) m)

  pub plus_commutes : (a b : ℕ) → residue_plus m a b ≡ residue_plus m b a
  plus_commutes a b = ap (λ n. n % m) (add_comm a b)

  pub plus_nothing : (a : ℕ) → a < m → residue_plus m a 0 ≡ a
  plus_nothing a below = ap (λ n. n % m) (add-zero a) ∙ mod-eq_of_lt below

  pub plus_cancels : (a : ℕ) → a < m → residue_plus m a (residue_opposite m a) ≡ 0
  plus_cancels a below =
      let whole : a + (m - a) ≡ m = omega arith in
      add-mod-mod a (m - a) m ∙ ap (λ n. n % m) whole ∙ mod_self m

  -- the opposite of zero is zero, and of any other residue what is left of m
  pub opposite_cases : (a : ℕ) → a < m → ((a ≡ 0) × (residue_opposite m a ≡ 0)) ⊎ ((0 < a) × (residue_opposite m a ≡ m - a))
  opposite_cases a below =
      elim (cases_eq a 0) [
        | inl e ↦ inl (e, (let whole : m - a ≡ m = omega arith in ap (λ n. n % m) whole ∙ mod_self m))
        | inr apart ↦ let less : m - a < m = omega arith in inr ((omega arith), mod-eq_of_lt less)
      ]

  pub size_of_opposite : (a : ℕ) → a < m → residue_size m (residue_opposite m a) ≡ residue_size m a
  size_of_opposite a below =
      elim (opposite_cases a below) [ inl h ↦ omega (arith, h.0, h.1) | inr h ↦ omega (arith, h.0, h.1) ]

  pub size_below : (a : ℕ) → a < m → residue_size m a < m
  size_below a below = omega arith

  pub least_below : (z : ℤ) → least_residue m z < m
  least_below (pos n) = mod-lt n positive
  least_below (negsuc n) = mod-lt _ positive
