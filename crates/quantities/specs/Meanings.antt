-- The terms of heights and of angles, on the elements that the code has.
use Rattle.std.specs.Prelude.{◌≡◌, ℕ, ◌+◌, ◌-◌, refl}
use Rattle.std.proofs.Common.{lit<, lit≤}
use Rattle.std.proofs.Math.Nat.{le-add_left}
use Rattle.quantities.specs.declared.residue.Residue.{Residue}
use Rattle.quantities.specs.Terms.{Terms}
use Rattle.quantities.specs.Residues.{least_residue}
use Rattle.quantities.specs.ResidueLaws.{least_below, below_along}
use Rattle.quantities.specs.Modular.{ResidueType, terms}
use Rattle.quantities.specs.Heights.{height_modulus, heights}
use Rattle.quantities.specs.Angles.{full_circle, angles}

-- one element for each residue, whatever the greatest
module _ (greatest : ℕ) where
  pub same : (x y : Residue greatest) → x.residue ≡ y.residue → x ≡ y
  same x y e = λ i. record { residue = e i; fits = below_along (greatest + 1) e x.fits y.fits i }

  abbrev pub residues : ResidueType (greatest + 1) (Residue greatest)
  residues =
      record {
        residue = λ x. x.residue;
        element = λ z. record { residue = least_residue (greatest + 1) z; fits = least_below (greatest + 1) (le-add_left 1 greatest) z };
        below = λ x. x.fits;
        reduced = λ z. refl;
        same = same;
      }

-- the residues modulo m
abbrev pub Modulo : ℕ → Type 0
Modulo m = Residue (m - 1)

pub same_height : (x y : Modulo height_modulus) → x.residue ≡ y.residue → x ≡ y
same_height = same (height_modulus - 1)

pub same_angle : (x y : Modulo full_circle) → x.residue ≡ y.residue → x ≡ y
same_angle = same (full_circle - 1)

abbrev pub height_residues : ResidueType height_modulus (Modulo height_modulus)
height_residues = residues (height_modulus - 1)

abbrev pub angle_residues : ResidueType full_circle (Modulo full_circle)
angle_residues = residues (full_circle - 1)

abbrev pub heights_terms : Terms (Modulo height_modulus)
heights_terms = terms height_modulus (lit< tt) height_residues (lit≤ tt) heights

abbrev pub angles_terms : Terms (Modulo full_circle)
angles_terms = terms full_circle (lit< tt) angle_residues (lit≤ tt) angles
