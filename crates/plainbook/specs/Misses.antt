-- The misses of a survey at a class: one word for each rule and item missed.
use Rattle.std.specs.Prelude.{ℕ, zero, suc, ◌+◌, ◌*◌, ◌^◌, cond, List, [], ◌∷◌, ◌++◌, Some, None, Option}
use Rattle.std.specs.Option.{option_map}
use Rattle.quantities.specs.Terms.{Terms}
use Rattle.standards.specs.declared.class.Class.{Class}
use Rattle.standards.specs.declared.finding.Directions.{Directions}
use Rattle.standards.specs.Classes.{class_number}
use Rattle.standards.specs.NoWorse.{Kind}
use Rattle.standards.specs.Rules.{Rules, Table}
use Rattle.standards.specs.Observed.{leg_finding}
use Rattle.plainbook.specs.Findings.{circuit_finding, the_whole}
use Rattle.plainbook.specs.Surveys.{Survey, leg_numbers, circuit_numbers}

-- the kind of a miss, and where an item stands
abbrev pub miss_kind : ℕ
miss_kind = 12

abbrev pub leg_place : ℕ
leg_place = 1

abbrev pub circuit_place : ℕ
circuit_place = 2

abbrev pub whole_place : ℕ
whole_place = 3

-- bits 27 to 24 the class, 23 to 20 the place, 19 to 12 the rule counted from 1, 11 to 0 the item's number, 0 for the whole
abbrev pub miss_word : Class → (place rule item : ℕ) → ℕ
miss_word k place rule item = miss_kind * 2 ^ 28 + class_number k * 2 ^ 24 + place * 2 ^ 20 + rule * 2 ^ 12 + item

module _ {Finding : Type 0} {kind : Kind Finding} {better : Directions} (table : Table kind better) (k : Class) (place : ℕ) where
  -- the misses of one item under the next rules, counted from a rule
  abbrev pub rule_misses : (item : ℕ) → Finding → (rule left : ℕ) → List ℕ
  rule_misses item f rule zero = []
  rule_misses item f rule (suc left) =
      cond (table.meets rule f k) (rule_misses item f (suc rule) left) (miss_word k place (suc rule) item ∷ rule_misses item f (suc rule) left)

  abbrev pub item_misses : (item : ℕ) → Option Finding → List ℕ
  item_misses item None = []
  item_misses item (Some f) = rule_misses item f 0 table.count

  -- the misses of what stands at the numbers given, in their order
  abbrev pub misses_of : (ℕ → Option Finding) → List ℕ → List ℕ
  misses_of f [] = []
  misses_of f (n ∷ ns) = item_misses n (f n) ++ misses_of f ns

module _ {Element : Type 0} (q : Terms Element) (s : Rules) (p : Survey) (k : Class) where
  -- the misses of the legs, of the circuits and of the whole
  abbrev pub leg_misses : List ℕ
  leg_misses = misses_of s.legs k leg_place (λ n. option_map (leg_finding q) (p.legs n)) leg_numbers

  abbrev pub circuit_misses : List ℕ
  circuit_misses = misses_of s.circuits k circuit_place (λ n. option_map (circuit_finding q p) (p.circuits n)) circuit_numbers

  abbrev pub whole_misses : List ℕ
  whole_misses = item_misses s.whole k whole_place 0 (Some (the_whole q p))

  -- the misses of a survey: those of its legs first, then of its circuits, then of the whole
  abbrev pub survey_misses : List ℕ
  survey_misses = leg_misses ++ (circuit_misses ++ whole_misses)
