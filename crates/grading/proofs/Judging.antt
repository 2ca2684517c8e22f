-- What grading answers. Assumes nothing.
use Rattle.std.proofs.Common.{◌≡◌, ℕ, Bool, true, false, not, [], ◌∷◌, Some, None, Option, sym, refl, ap, ◌∙◌, subst}
use mathlib.Core.Path.{fun_ext}
use Rattle.records.specs.declared.refusal.Reason.TheVariants.{NoLeg, Loose}
use Rattle.records.specs.Refusals.{first, refusal}
use Rattle.quantities.specs.Terms.{Terms}
use Rattle.standards.specs.declared.class.Class.{Class}
use Rattle.standards.specs.declared.class_set.ClassSet.{ClassSet}
use Rattle.standards.specs.Classes.{members, least}
use Rattle.standards.specs.ClassSets.{holds}
use Rattle.standards.specs.Rules.{Rules}
use Rattle.plainbook.specs.Grades.{class_bits, met, grade}
use Rattle.plainbook.specs.Refusals.{refused_if, grade_refusals}
use Rattle.plainbook.specs.Surveys.{Survey, any_leg, loose_leg}
use Rattle.grading.specs.declared.grade.Grade.{Grade as Graded}
use Rattle.plainbook.specs.Promise.{Highest}
use Rattle.plainbook.proofs.Invariant.{Sound}
use Rattle.plainbook.proofs.Items.{earned, gained, highest}
use Rattle.grading.specs.Grades.{grade_record, GradeEarned}
use Rattle.survey.proofs.Outcomes.{first_after, first_at, refused_where, not_refused}

module _ {Element : Type 0} (q : Terms Element) (s : Rules) (p : Survey) where
  -- ---- refusals
  pub no_leg : any_leg p ≡ false → first (grade_refusals q s p) ≡ Some (record { reason = NoLeg; place = 0 })
  no_leg e = first_at (refused_if NoLeg 0 (not (any_leg p))) (refusal Loose (loose_leg p) ∷ []) _ (refused_where NoLeg 0 _ (ap not e))

  pub some_leg : (o : Option ℕ) → any_leg p ≡ true → loose_leg p ≡ o → first (grade_refusals q s p) ≡ refusal Loose o
  some_leg o e l = first_after (refused_if NoLeg 0 (not (any_leg p))) (refusal Loose (loose_leg p) ∷ []) (not_refused NoLeg 0 _ (ap not e)) ∙ ap (λ o. first (refusal Loose o ∷ [])) l ∙ lone o
    where
      lone : (o : Option ℕ) → first (refusal Loose o ∷ []) ≡ refusal Loose o
      lone None = refl
      lone (Some n) = refl

  -- ---- the grade of the set of classes met
  pub graded_by : (m : ClassSet) (r : Graded) → ((k : Class) → holds m k ≡ met q s p k) → grade_record r ≡ record { set = class_bits (holds m); count = members (holds m); best = least (holds m) } → grade_record r ≡ grade q s p
  graded_by m r h e = e ∙ ap (λ (test : Class → Bool). record { set = class_bits test; count = members test; best = least test }) (fun_ext h)

  pub grade_earned : (m : ClassSet) (r : Graded) → Sound p → ((k : Class) → holds m k ≡ met q s p k) → r.met ≡ m → grade_record r ≡ grade q s p → GradeEarned q s p r
  grade_earned m r sound h set value =
      record {
        members =
            λ k.
            let same : holds r.met k ≡ met q s p k = ap (λ (m : ClassSet). holds m k) set ∙ h k in
            (λ e. earned q s p sound k (sym same ∙ e), λ e. same ∙ gained q s p k e);
        best = subst (Highest q s p) (sym (ap (λ g. g.best) value)) (highest q s p sound);
      }
