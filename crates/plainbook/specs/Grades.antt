-- The grade of a survey: the classes that every rule meets on every finding.
use Rattle.std.specs.Prelude.{ℕ, ◌+◌, ◌-◌, ◌^◌, Bool, cond, ◌&&◌, [], ◌∷◌, Option}
use Rattle.quantities.specs.Terms.{Terms}
use Rattle.standards.specs.declared.class.Class.{Class}
use Rattle.standards.specs.declared.class.Class.TheVariants.{First, Second, Third, Fourth, Fifth}
use Rattle.standards.specs.Classes.{class_number, members, least}
use Rattle.standards.specs.Gathering.{all_meet}
use Rattle.standards.specs.Rules.{Rules}
use Rattle.plainbook.specs.Findings.{leg_findings, circuit_findings, the_whole}
use Rattle.plainbook.specs.Surveys.{Survey}

-- five bits, class 1 lowest
abbrev pub class_bit : (Class → Bool) → Class → ℕ
class_bit test k = cond (test k) (2 ^ (class_number k - 1)) 0

abbrev pub class_bits : (Class → Bool) → ℕ
class_bits test =
    class_bit test First + class_bit test Second + class_bit test Third + class_bit test Fourth + class_bit test Fifth

-- the set of classes met, how many they are, and the best or none
pub record Grade : Type 0 where
  pub set : ℕ
  pub count : ℕ
  pub best : Option Class

module _ {Element : Type 0} (q : Terms Element) (s : Rules) (p : Survey) where
  -- every rule is met at the class by every leg, every circuit and the whole
  abbrev pub met : Class → Bool
  met k =
      all_meet s.legs (leg_findings q p) k
      && (all_meet s.circuits (circuit_findings q p) k && all_meet s.whole (the_whole q p ∷ []) k)

  abbrev pub grade : Grade
  grade = record { set = class_bits met; count = members met; best = least met }
