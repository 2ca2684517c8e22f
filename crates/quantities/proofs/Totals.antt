-- Totals of elements and of the whole numbers that they come from.
use Rattle.std.proofs.Common.{◌≡◌, ℕ, ◌*◌, ◌^◌, ◌<◌, ◌≤◌, List, [], ◌∷◌, map, length, ℤ, pos, neg_ℤ, nat_abs, sym, ap, ◌∙◌, add-mul, arith}
use borrow.Author.Differences.{ints}
use Rattle.std.specs.List.{AllByRecursion as All}
use Rattle.quantities.specs.Residues.{residue_plus, residue_opposite, least_residue, signed_form}
use Rattle.quantities.specs.Modular.{ResidueType, Measures, terms, sum_residue, negated, negated_residue}
use Rattle.quantities.specs.Sums.{whole_sum, total}
use Rattle.quantities.proofs.Wholes.{least_sum, least_opposite, signed_near}

-- a sum of n numbers, each of size at most b, has size at most n * b
pub whole_sum_bound : (b : ℕ) (zs : List ℤ) → All (λ z. nat_abs z ≤ b) zs → nat_abs (whole_sum zs) ≤ length zs * b
whole_sum_bound b [] h = omega arith
whole_sum_bound b (z ∷ zs) h =
    omega (arith, ints, h.0, whole_sum_bound b zs h.1, add-mul 1 (length zs) b)

module _ {Element : Type 0} (m : ℕ) (positive : 0 < m) (residues : ResidueType m Element) (fits : m ≤ 2 ^ 64) (measures : Measures) where
  abbrev pub summed : List ℤ → Element
  summed zs = total (terms m positive residues fits measures) (map residues.element zs)

  pub summed_residue : (zs : List ℤ) → residues.residue (summed zs) ≡ least_residue m (whole_sum zs)
  summed_residue [] = residues.reduced (pos 0)
  summed_residue (z ∷ zs) =
      sum_residue m positive residues (residues.element z) (summed zs)
      ∙ ap (λ n. residue_plus m n (residues.residue (summed zs))) (residues.reduced z)
      ∙ ap (residue_plus m (least_residue m z)) (summed_residue zs)
      ∙ sym (least_sum m positive z (whole_sum zs))

  -- The sum never wraps: whole numbers that together stay below half of m are summed truly by their residues.
  pub summed_near : (b : ℕ) (zs : List ℤ) → All (λ z. nat_abs z ≤ b) zs → 2 * (length zs * b) < m → signed_form m (residues.residue (summed zs)) ≡ whole_sum zs
  summed_near b zs small short =
      let near : 2 * nat_abs (whole_sum zs) < m = omega (arith, whole_sum_bound b zs small) in
      ap (signed_form m) (summed_residue zs) ∙ signed_near m positive (whole_sum zs) near

  pub element_opposite : (z : ℤ) → negated m positive residues (residues.element z) ≡ residues.element (neg_ℤ z)
  element_opposite z =
      residues.same _ _ (negated_residue m positive residues (residues.element z)
      ∙ ap (residue_opposite m) (residues.reduced z)
      ∙ sym (least_opposite m positive z)
      ∙ sym (residues.reduced (neg_ℤ z)))
