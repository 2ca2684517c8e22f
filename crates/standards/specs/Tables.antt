-- A table of a standard, as the list of its rules.
use Rattle.std.specs.Prelude.{◌≡◌, ℕ, zero, suc, ◌≤◌, Bool, true, List, [], ◌∷◌, length}
use Rattle.std.proofs.Common.{subst, sym}
use Rattle.standards.specs.declared.class.Class.{Class}
use Rattle.standards.specs.declared.finding.Directions.{Directions}
use Rattle.standards.specs.NoWorse.{Kind, NoWorse}
use Rattle.standards.specs.Rules.{Table}

-- the classes that a finding meets, and the law
pub record Rule {Finding : Type 0} (kind : Kind Finding) (better : Directions) : Type 0 where
  pub meets : Finding → Class → Bool
  pub law : (f g : Finding) → NoWorse kind better f g → (k : Class) → meets g k ≡ true → meets f k ≡ true

module _ {Finding : Type 0} {kind : Kind Finding} {better : Directions} where
  -- the rule at a place of the list; past its end every class is met
  abbrev pub rule_at : List (Rule kind better) → ℕ → Finding → Class → Bool
  rule_at [] n f k = true
  rule_at (rule ∷ rules) zero f k = rule.meets f k
  rule_at (rule ∷ rules) (suc n) f k = rule_at rules n f k

  pub rule_at_law : (rules : List (Rule kind better)) (n : ℕ) (f g : Finding) → NoWorse kind better f g → (k : Class)
      → rule_at rules n g k ≡ true → rule_at rules n f k ≡ true
  rule_at_law [] n f g w k met = met
  rule_at_law (rule ∷ rules) zero f g w k met = rule.law f g w k met
  rule_at_law (rule ∷ rules) (suc n) f g w k met = rule_at_law rules n f g w k met

  abbrev pub table_of : (rules : List (Rule kind better)) → length rules ≤ 255 → Table kind better
  table_of rules few = record { count = length rules; few = few; meets = rule_at rules; law = rule_at_law rules }

  -- A rule may use all else as it likes, since that is equal: what is held fixed comes from `others`.
  pub law_beside : (meets : Finding → Finding → Class → Bool)
      → ((fixed f g : Finding) → NoWorse kind better f g → (k : Class) → meets fixed g k ≡ true → meets fixed f k ≡ true)
      → (f g : Finding) → NoWorse kind better f g → (k : Class)
      → meets (kind.others g) g k ≡ true → meets (kind.others f) f k ≡ true
  law_beside meets law f g w k met =
      law (kind.others f) f g w k (subst (λ fixed. meets fixed g k ≡ true) (sym w.others) met)
