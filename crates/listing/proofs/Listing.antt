-- Rule by rule through an item's misses. Assumes nothing.
use Rattle.std.proofs.Common.{◌≡◌, ℕ, suc, ◌+◌, ◌-◌, ◌<◌, ◌≤◌, true, false, cond, List, [], ◌∷◌, sym, ap, ◌∙◌, add-one, arith}
use Rattle.standards.specs.declared.class.Class.{Class}
use Rattle.standards.specs.declared.finding.Directions.{Directions}
use Rattle.standards.specs.NoWorse.{Kind}
use Rattle.standards.specs.Rules.{Table}
use Rattle.plainbook.specs.Misses.{miss_word, rule_misses}

module _ {Finding : Type 0} {kind : Kind Finding} {better : Directions} (table : Table kind better) (k : Class) (place item : ℕ) (f : Finding) (rule : ℕ) where
  -- the misses from a rule on
  abbrev pub left : List ℕ
  left = rule_misses table k place item f rule (table.count - rule)

module _ {Finding : Type 0} {kind : Kind Finding} {better : Directions} (table : Table kind better) (k : Class) (place item : ℕ) (f : Finding) (rule : ℕ) (h : rule < table.count) where
  next : left table k place item f rule
      ≡ cond (table.meets rule f k) (left table k place item f (rule + 1)) (miss_word k place (suc rule) item ∷ left table k place item f (rule + 1))
  next =
      let more : table.count - rule ≡ suc (table.count - (rule + 1)) = omega arith in
      ap (rule_misses table k place item f rule) more
      ∙ ap (λ r. cond (table.meets rule f k) (rule_misses table k place item f r (table.count - (rule + 1))) (miss_word k place (suc rule) item ∷ rule_misses table k place item f r (table.count - (rule + 1)))) (sym (add-one rule))

  pub next_met : table.meets rule f k ≡ true → left table k place item f rule ≡ left table k place item f (rule + 1)
  next_met e = next ∙ ap (λ b. cond b (left table k place item f (rule + 1)) (miss_word k place (suc rule) item ∷ left table k place item f (rule + 1))) e

  pub next_missed : table.meets rule f k ≡ false → left table k place item f rule ≡ miss_word k place (suc rule) item ∷ left table k place item f (rule + 1)
  next_missed e = next ∙ ap (λ b. cond b (left table k place item f (rule + 1)) (miss_word k place (suc rule) item ∷ left table k place item f (rule + 1))) e

pub none_left : {Finding : Type 0} {kind : Kind Finding} {better : Directions} (table : Table kind better) (k : Class) (place item : ℕ) (f : Finding) (rule : ℕ) → table.count ≤ rule → left table k place item f rule ≡ []
none_left table k place item f rule h = let none : table.count - rule ≡ 0 = omega arith in ap (rule_misses table k place item f rule) none

pub all_left : {Finding : Type 0} {kind : Kind Finding} {better : Directions} (table : Table kind better) (k : Class) (place item : ℕ) (f : Finding) → left table k place item f 0 ≡ rule_misses table k place item f 0 table.count
all_left table k place item f = let all : table.count - 0 ≡ table.count = omega arith in ap (rule_misses table k place item f 0) all
