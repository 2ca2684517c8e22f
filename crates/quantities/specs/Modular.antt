-- A quantity whose elements are the least residues modulo m: what it reads from payloads, as whole numbers, and its terms.
use Rattle.std.specs.Prelude.{◌≡◌, ℕ, ◌+◌, ◌-◌, ◌^◌, ◌<◌, ◌≤◌, Bool, ℤ, pos, None, Option}
use Rattle.std.proofs.Common.{sym, ap, ◌∙◌, arith}
use Rattle.std.proofs.Math.Nat.{zero-mod}
use Rattle.quantities.specs.Terms.{Terms}
use Rattle.quantities.specs.Residues.{residue_plus, residue_opposite, residue_size, least_residue}
use Rattle.quantities.specs.ResidueLaws as law

-- a type whose elements are the residues below m, one for each
pub record ResidueType (m : ℕ) (Element : Type 0) : Type 0 where
  pub residue : Element → ℕ
  pub element : ℤ → Element
  pub below : (x : Element) → residue x < m
  pub reduced : (z : ℤ) → residue (element z) ≡ least_residue m z
  pub same : (x y : Element) → residue x ≡ residue y → x ≡ y

-- what a quantity accepts and reads, in whole numbers of its unit
pub record Measures : Type 0 where
  pub accepts_value : ℕ → Bool
  pub accepts_back : Option ℕ → Bool
  pub accepts_due : ℕ → Bool
  pub contribution : ℕ → Option ℕ → ℤ
  pub misclosure : ℕ → Option ℕ → ℤ
  pub due : ℕ → ℤ
  pub no_back : (v : ℕ) → misclosure v None ≡ pos 0

module _ {Element : Type 0} (m : ℕ) (positive : 0 < m) (residues : ResidueType m Element) where
  abbrev pub nothing : Element
  nothing = residues.element (pos 0)

  abbrev pub sum : Element → Element → Element
  sum x y = residues.element (pos (residues.residue x + residues.residue y))

  abbrev pub negated : Element → Element
  negated x = residues.element (pos (m - residues.residue x))

  pub nothing_residue : residues.residue nothing ≡ 0
  nothing_residue = residues.reduced (pos 0) ∙ zero-mod m

  pub sum_residue : (x y : Element) → residues.residue (sum x y) ≡ residue_plus m (residues.residue x) (residues.residue y)
  sum_residue x y = residues.reduced (pos (residues.residue x + residues.residue y))

  pub negated_residue : (x : Element) → residues.residue (negated x) ≡ residue_opposite m (residues.residue x)
  negated_residue x = residues.reduced (pos (m - residues.residue x))

  pub sum_assoc : (x y z : Element) → sum (sum x y) z ≡ sum x (sum y z)
  sum_assoc x y z =
      let r = residues.residue in
      residues.same _ _ (sum_residue (sum x y) z
      ∙ ap (λ n. residue_plus m n (r z)) (sum_residue x y)
      ∙ law.plus_associates m positive (r x) (r y) (r z)
      ∙ ap (residue_plus m (r x)) (sym (sum_residue y z))
      ∙ sym (sum_residue x (sum y z)))

  pub sum_comm : (x y : Element) → sum x y ≡ sum y x
  sum_comm x y =
      residues.same _ _ (sum_residue x y ∙ law.plus_commutes m positive (residues.residue x) (residues.residue y) ∙ sym (sum_residue y x))

  pub sum_nothing : (x : Element) → sum x nothing ≡ x
  sum_nothing x =
      residues.same _ _ (sum_residue x nothing
      ∙ ap (residue_plus m (residues.residue x)) nothing_residue
      ∙ law.plus_nothing m positive (residues.residue x) (residues.below x))

  pub sum_negated : (x : Element) → sum x (negated x) ≡ nothing
  sum_negated x =
      residues.same _ _ (sum_residue x (negated x)
      ∙ ap (residue_plus m (residues.residue x)) (negated_residue x)
      ∙ law.plus_cancels m positive (residues.residue x) (residues.below x)
      ∙ sym nothing_residue)

  pub negated_size : (x : Element) → residue_size m (residues.residue (negated x)) ≡ residue_size m (residues.residue x)
  negated_size x = ap (residue_size m) (negated_residue x) ∙ law.size_of_opposite m positive (residues.residue x) (residues.below x)

  pub size_within : m ≤ 2 ^ 64 → (x : Element) → residue_size m (residues.residue x) < 2 ^ 64
  size_within fits x = omega (arith, law.size_below m positive (residues.residue x) (residues.below x))

  abbrev pub terms : m ≤ 2 ^ 64 → Measures → Terms Element
  terms fits measures =
      record {
        accepts_value = measures.accepts_value;
        accepts_back = measures.accepts_back;
        accepts_due = measures.accepts_due;
        contribution = λ value back. residues.element (measures.contribution value back);
        misclosure = λ value back. residues.element (measures.misclosure value back);
        due = λ payload. residues.element (measures.due payload);
        zero = nothing;
        plus = sum;
        opposite = negated;
        size = λ x. residue_size m (residues.residue x);
        plus_assoc = sum_assoc;
        plus_comm = sum_comm;
        plus_zero = sum_nothing;
        plus_opposite = sum_negated;
        size_opposite = negated_size;
        size_fits = size_within fits;
        no_back = λ value accepted absent. ap residues.element (measures.no_back value);
      }
