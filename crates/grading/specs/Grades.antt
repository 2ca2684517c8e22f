-- A grade as the plain book's, and what it says of the classes that a survey has earned.
use Rattle.std.specs.Prelude.{Decides}
use Rattle.quantities.specs.Terms.{Terms}
use Rattle.standards.specs.declared.class.Class.{Class}
use Rattle.standards.specs.ClassSets.{holds}
use Rattle.standards.specs.Rules.{Rules}
use Rattle.plainbook.specs.Grades as plain
use Rattle.plainbook.specs.Promise.{Earned, Highest}
use Rattle.plainbook.specs.Steps.{Answer, graded}
use Rattle.plainbook.specs.Surveys.{Survey}
use Rattle.grading.specs.declared.grade.Grade.{Grade}

abbrev pub grade_record : Grade → plain.Grade
grade_record g = record { set = g.met.bits; count = g.count; best = g.best }

-- The set holds a class exactly where every leg, every circuit and the whole meet every rule at it; and the best is the
-- highest of them, and none exactly where there is none.
pub record GradeEarned {Element : Type 0} (q : Terms Element) (s : Rules) (p : Survey) (g : Grade) : Type 0 where
  pub members : (k : Class) → Decides (holds g.met k) (Earned q s p k)
  pub best : Highest q s p g.best

-- the plain book's answer to grade
abbrev pub is_graded : Grade → Answer
is_graded g = graded (grade_record g)
