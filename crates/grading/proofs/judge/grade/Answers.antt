use Rattle.std.proofs.Common.{◌≡◌, ◌&&◌, [], ◌∷◌, refl, ap, ◌∙◌}
use Rattle.std.proofs.lemmas.Result.{err_from_is_err_and}
use Rattle.records.specs.Refusals.{first}
use Rattle.standards.specs.declared.class.Class.{Class}
use Rattle.standards.specs.ClassSets.{holds}
use Rattle.standards.specs.Gathering.{all_meet}
use Rattle.plainbook.specs.Grades as plain
use Rattle.plainbook.specs.Grades.{grade}
use Rattle.plainbook.specs.Refusals.{grade_refusals}
use Rattle.plainbook.specs.Steps.{graded}
use Rattle.survey.specs.Books.{plain_book, surveyed}
use Rattle.grading.specs.Grades.{is_graded}
use Rattle.grading.proofs.Judging.{graded_by, grade_earned}
use Rattle.survey.proofs.Outcomes.{refuses, answers, was_refused, was_given}
use Rattle.survey.proofs.Soundness.{sound}
use Rattle.grading.proofs.judge.grade.Goals as goal

pub returns-in_err-check_grade : goal.returns-in_err-check_grade
returns-in_err-check_grade g c =
    let b = c.args.book.now in
    let q = g.Q.Quantity.meaning b.quantity in
    let s = g.S.Standard.meaning b.standard in
    let p = err_from_is_err_and c.from_residual.result c.from_residual.ensures.1 in
    rw (p.1, p.2)
    (record { answer = refuses is_graded (plain_book b) [] (graded (grade q s (surveyed b))) (surveyed b) [] (first (grade_refusals q s (surveyed b))) _ (was_refused _ tt _ c.in_err-check_grade.ensures); earned = tt })

pub returns : goal.returns
returns g c =
    let b = c.args.book.now in
    let q = g.Q.Quantity.meaning b.quantity in
    let s = g.S.Standard.meaning b.standard in
    let whole = c.whole_finding-whole.ensures in
    let legs = c.deref.ensures.value ∙ c.in_ok-legs.ensures in
    let circuits = c.deref-2.ensures.value ∙ c.in_ok-circuits.ensures in
    let met : (k : Class) → holds c.met.result k ≡ plain.met q s (surveyed b) k = λ k. c.met.ensures k ∙ (λ i. all_meet s.legs (legs i) k && (all_meet s.circuits (circuits i) k && all_meet s.whole (whole i ∷ []) k)) in
    let value = graded_by q s (surveyed b) c.met.result c.of.result met c.of.ensures.value in
    record {
      answer =
          answers is_graded (plain_book b) [] (graded (grade q s (surveyed b))) (surveyed b) [] (first (grade_refusals q s (surveyed b))) c.of.result _
          (was_given _ tt _ c.in_ok-check_grade.ensures).0 (ap graded value) refl;
      earned = grade_earned q s (surveyed b) c.met.result c.of.result (sound b) met c.of.ensures.set value;
    }
