-- What is promised of every way to use a book, for every quantity and every standard.
use Rattle.std.specs.Prelude.{◌≡◌, ℕ, suc, ◌<◌, ◌≤◌, true, false, ◌⊎◌, List, is_some, Some, None, Option}
use Rattle.std.specs.Option.{option_map}
use Rattle.records.specs.Refusals.{first}
use Rattle.quantities.specs.Terms.{Terms}
use Rattle.standards.specs.declared.class.Class.{Class}
use Rattle.standards.specs.declared.finding.CircuitFinding.{CircuitFinding}
use Rattle.standards.specs.declared.finding.Directions.{Directions}
use Rattle.standards.specs.declared.finding.LegFinding.{LegFinding}
use Rattle.standards.specs.Classes.{class_number}
use Rattle.standards.specs.NoWorse.{Kind, NoWorse, leg_kind, circuit_kind}
use Rattle.standards.specs.Rules.{Rules, Table}
use Rattle.standards.specs.Observed.{leg_finding}
use Rattle.plainbook.specs.Accepted.{Accepted}
use Rattle.plainbook.specs.Findings.{circuit_finding, the_whole}
use Rattle.plainbook.specs.Grades.{grade}
use Rattle.plainbook.specs.Misses.{miss_word, survey_misses, leg_place, circuit_place, whole_place}
use Rattle.plainbook.specs.Refusals.{grade_refusals}
use Rattle.plainbook.specs.Rewritings.{Rewriting, new_leg, new_circuit}
use Rattle.plainbook.specs.Steps.{Call, opened, run}
use Rattle.plainbook.specs.Surveys.{Survey, In}

-- ---- items: the finding of what stands at a number, if anything does
module _ {Element : Type 0} (q : Terms Element) (p : Survey) where
  abbrev pub leg_item : ℕ → Option LegFinding
  leg_item n = option_map (leg_finding q) (p.legs n)

  abbrev pub circuit_item : ℕ → Option CircuitFinding
  circuit_item n = option_map (circuit_finding q p) (p.circuits n)

-- an item misses a rule at a class
abbrev pub Misses : {Finding : Type 0} {kind : Kind Finding} {better : Directions} → Table kind better → Class → (rule : ℕ) → Option Finding → Type 0
Misses table k rule None = ⊥
Misses table k rule (Some f) = (rule < table.count) × (table.meets rule f k ≡ false)

-- two items miss the same rules at each class
abbrev pub SameMisses : {Finding : Type 0} {kind : Kind Finding} {better : Directions} → Table kind better → (x y : Option Finding) → Type 0
SameMisses table x y = (k : Class) (rule : ℕ) → (Misses table k rule x → Misses table k rule y) × (Misses table k rule y → Misses table k rule x)

-- an item meets every rule at a class
abbrev pub Meets : {Finding : Type 0} {kind : Kind Finding} {better : Directions} → Table kind better → Class → Option Finding → Type 0
Meets table k None = Unit {0}
Meets table k (Some f) = (rule : ℕ) → rule < table.count → table.meets rule f k ≡ true

-- ---- items that pair off one for one, the second's no worse
pub record Pairing {Finding : Type 0} (kind : Kind Finding) (better : Directions) (f g : ℕ → Option Finding) : Type 0 where
  pub there : ℕ → ℕ
  pub back : ℕ → ℕ
  pub stands_there : (n : ℕ) → is_some (f n) ≡ true → is_some (g (there n)) ≡ true
  pub stands_back : (n : ℕ) → is_some (g n) ≡ true → is_some (f (back n)) ≡ true
  pub back_there : (n : ℕ) → is_some (f n) ≡ true → back (there n) ≡ n
  pub there_back : (n : ℕ) → is_some (g n) ≡ true → there (back n) ≡ n
  pub no_worse : (n : ℕ) (x y : Finding) → f (back n) ≡ Some x → g n ≡ Some y → NoWorse kind better y x

-- a class at least as high; none is the lowest
abbrev pub AtLeast : Option Class → Option Class → Type 0
AtLeast k None = Unit {0}
AtLeast None (Some best) = ⊥
AtLeast (Some k) (Some best) = class_number k ≤ class_number best

module _ {Element : Type 0} (q : Terms Element) (s : Rules) where
  -- every item meets every rule at the class
  pub record Earned (p : Survey) (k : Class) : Type 0 where
    pub legs : (n : ℕ) → Meets s.legs k (leg_item q p n)
    pub circuits : (n : ℕ) → Meets s.circuits k (circuit_item q p n)
    pub whole : Meets s.whole k (Some (the_whole q p))

  -- the grade's class is the highest that is earned, and there is none exactly where none is earned
  abbrev pub Highest : Survey → Option Class → Type 0
  Highest p None = (k : Class) → Earned p k → ⊥
  Highest p (Some best) = Earned p best × ((k : Class) → Earned p k → class_number best ≤ class_number k)

  -- the word of a miss is listed for each rule that an item misses, and no other word is
  pub record Listed (p : Survey) (k : Class) : Type 0 where
    pub legs : (n rule : ℕ) → Misses s.legs k rule (leg_item q p n) → In (miss_word k leg_place (suc rule) n) (survey_misses q s p k)
    pub circuits : (n rule : ℕ) → Misses s.circuits k rule (circuit_item q p n) → In (miss_word k circuit_place (suc rule) n) (survey_misses q s p k)
    pub whole : (rule : ℕ) → Misses s.whole k rule (Some (the_whole q p)) → In (miss_word k whole_place (suc rule) 0) (survey_misses q s p k)
    pub no_other : (w : ℕ) → In w (survey_misses q s p k)
        → ((n : ℕ) × (rule : ℕ) × Misses s.legs k rule (leg_item q p n) × (w ≡ miss_word k leg_place (suc rule) n))
        ⊎ (((n : ℕ) × (rule : ℕ) × Misses s.circuits k rule (circuit_item q p n) × (w ≡ miss_word k circuit_place (suc rule) n))
        ⊎ ((rule : ℕ) × Misses s.whole k rule (Some (the_whole q p)) × (w ≡ miss_word k whole_place (suc rule) 0)))

  -- what an item of the second survey misses, its partner misses, and the second's class is at least as high
  pub record NoLower (a b : Survey) (leg_partner circuit_partner : ℕ → ℕ) : Type 0 where
    pub class : AtLeast (grade q s b).best (grade q s a).best
    pub legs : (k : Class) (rule n : ℕ) → Misses s.legs k rule (leg_item q b n) → Misses s.legs k rule (leg_item q a (leg_partner n))
    pub circuits : (k : Class) (rule n : ℕ) → Misses s.circuits k rule (circuit_item q b n) → Misses s.circuits k rule (circuit_item q a (circuit_partner n))
    pub whole : (k : Class) (rule : ℕ) → Misses s.whole k rule (Some (the_whole q b)) → Misses s.whole k rule (Some (the_whole q a))

  -- the grades are the same, and the two miss the same rules, item for item, under the new numbers; each item of the second
  -- is one of the first's
  pub record Agree (a b : Survey) (to_leg to_circuit : ℕ → ℕ) : Type 0 where
    pub grades : grade q s a ≡ grade q s b
    pub legs : (n : ℕ) → is_some (a.legs n) ≡ true → SameMisses s.legs (leg_item q a n) (leg_item q b (to_leg n))
    pub each_leg : (m : ℕ) → is_some (b.legs m) ≡ true → (n : ℕ) × (is_some (a.legs n) ≡ true) × (to_leg n ≡ m)
    pub circuits : (n : ℕ) → is_some (a.circuits n) ≡ true → SameMisses s.circuits (circuit_item q a n) (circuit_item q b (to_circuit n))
    pub each_circuit : (m : ℕ) → is_some (b.circuits m) ≡ true → (n : ℕ) × (is_some (a.circuits n) ≡ true) × (to_circuit n ≡ m)
    pub whole : SameMisses s.whole (Some (the_whole q a)) (Some (the_whole q b))

-- ---- ways
-- an open, and the calls after it
pub record Way (Q S : Type 0) : Type 0 where
  pub quantity : Q
  pub standard : S
  pub calls : List (Call Q S)

module _ {Q S Element : Type 0} (terms : Q → Terms Element) (rules : S → Rules) where
  -- a way leads to this quantity, this standard and this survey
  abbrev pub Leads : Way Q S → Q → S → Survey → Type 0
  Leads way q s p = run terms rules (opened way.quantity way.standard) way.calls ≡ record { quantity = q; standard = s; survey = p }

  -- a way ends with this quantity, this standard and this survey, and grade does not refuse it
  pub record Ends (way : Way Q S) (q : Q) (s : S) (p : Survey) : Type 0 where
    pub held : run terms rules (opened way.quantity way.standard) way.calls ≡ record { quantity = q; standard = s; survey = p }
    pub graded : first (grade_refusals (terms q) (rules s) p) ≡ None

  pub record Promise : Type 0 where
    -- What a way leads to, whether or not grade refuses it, holds only legs and circuits that were accepted, and what each
    -- circuit rests on still stands.
    pub accepted : (w : Way Q S) (q : Q) (s : S) (p : Survey) → Leads w q s p → Accepted (terms q) (rules s) p
    -- Two ways that end with one quantity and one standard: if the legs and the circuits pair off one for one, the second's no
    -- worse, then the second's class is at least as high, and what an item of the second misses, its partner misses.
    pub no_lower : (v w : Way Q S) (q : Q) (s : S) (a b : Survey) → Ends v q s a → Ends w q s b
        → (legs : Pairing leg_kind (rules s).directions (leg_item (terms q) a) (leg_item (terms q) b))
        → (circuits : Pairing circuit_kind (rules s).directions (circuit_item (terms q) a) (circuit_item (terms q) b))
        → NoLower (terms q) (rules s) a b legs.back circuits.back
    -- The class is the highest at which every item meets every rule, and there is none exactly where no class is met so.
    pub highest : (w : Way Q S) (q : Q) (s : S) (p : Survey) → Ends w q s p → Highest (terms q) (rules s) p (grade (terms q) (rules s) p).best
    -- The words that misses writes are those of the rules that items miss.
    pub listed : (w : Way Q S) (q : Q) (s : S) (p : Survey) → Ends w q s p → (k : Class) → Listed (terms q) (rules s) p k
    -- If the second is the first otherwise written, the grades are the same and the misses agree.
    pub otherwise_written : (v w : Way Q S) (q : Q) (s : S) (a b : Survey) → Ends v q s a → Ends w q s b
        → (r : Rewriting (terms q) a b) → Agree (terms q) (rules s) a b (new_leg r) (new_circuit r)
