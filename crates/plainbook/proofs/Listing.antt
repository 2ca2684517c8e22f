-- The words listed are those of the rules that items miss. Assumes nothing.
use Rattle.std.proofs.Common.{◌≡◌, ℕ, zero, suc, ◌+◌, ◌<◌, ◌≤◌, Bool, true, false, cond, ◌⊎◌, List, [], ◌∷◌, ◌++◌, is_some, Some, None, Option, sym, refl, ap, ◌∙◌, subst, inl, inr, ⊎_elim, arith}
use Rattle.std.proofs.lemmas.Bool.{cases_eq, both_ways}
use Rattle.quantities.specs.Terms.{Terms}
use Rattle.standards.specs.Observed.{leg_finding}
use Rattle.standards.specs.declared.class.Class.{Class}
use Rattle.standards.specs.declared.finding.Directions.{Directions}
use Rattle.standards.specs.NoWorse.{Kind}
use Rattle.standards.specs.Rules.{Rules, Table}
use Rattle.plainbook.specs.Findings.{circuit_finding, the_whole}
use Rattle.plainbook.specs.Misses.{miss_word, rule_misses, item_misses, misses_of, leg_place, circuit_place, whole_place}
use Rattle.plainbook.specs.Promise.{Misses, Listed, leg_item, circuit_item}
use Rattle.plainbook.specs.Surveys.{Survey, In, leg_numbers, circuit_numbers}
use Rattle.plainbook.proofs.Invariant.{Sound}
use Rattle.plainbook.proofs.Numbers.{leg_numbered, circuit_numbered}
use Rattle.plainbook.proofs.Standing.{some_mapped}

in_left : (w : ℕ) (xs ys : List ℕ) → In w xs → In w (xs ++ ys)
in_left w [] ys h = absurd h
in_left w (x ∷ xs) ys (inl e) = inl e
in_left w (x ∷ xs) ys (inr h) = inr (in_left w xs ys h)

in_right : (w : ℕ) (xs ys : List ℕ) → In w ys → In w (xs ++ ys)
in_right w [] ys h = h
in_right w (x ∷ xs) ys h = inr (in_right w xs ys h)

in_either : (w : ℕ) (xs ys : List ℕ) → In w (xs ++ ys) → In w xs ⊎ In w ys
in_either w [] ys h = inr h
in_either w (x ∷ xs) ys (inl e) = inl (inl e)
in_either w (x ∷ xs) ys (inr h) = ⊎_elim (λ i. inl (inr i)) (λ i. inr i) (in_either w xs ys h)

module _ {Finding : Type 0} {kind : Kind Finding} {better : Directions} (table : Table kind better) (k : Class) (place : ℕ) where
  -- one item
  abbrev Missed : ℕ → Option Finding → ℕ → Type 0
  Missed item o w = (rule : ℕ) × Misses table k rule o × (w ≡ miss_word k place (suc rule) item)

  listed_rule : (item : ℕ) (f : Finding) (rule left r : ℕ) → rule ≤ r → r < rule + left → table.meets r f k ≡ false → In (miss_word k place (suc r) item) (rule_misses table k place item f rule left)
  listed_rule item f rule zero r low high e = absurd (omega arith)
  listed_rule item f rule (suc left) r low high e =
      ⊎_elim (λ same. here (table.meets rule f k) (ap (λ x. table.meets x f k) (sym same) ∙ e) (ap (λ x. miss_word k place (suc x) item) same))
      (λ other. later (table.meets rule f k) (listed_rule item f (suc rule) left r (omega (arith, other)) (omega arith) e)) (cases_eq r rule)
    where
      here : (b : Bool) → b ≡ false → miss_word k place (suc r) item ≡ miss_word k place (suc rule) item → In (miss_word k place (suc r) item) (cond b (rule_misses table k place item f (suc rule) left) (miss_word k place (suc rule) item ∷ rule_misses table k place item f (suc rule) left))
      here true h same = absurd (both_ways true h refl)
      here false h same = inl same

      later : (b : Bool) → In (miss_word k place (suc r) item) (rule_misses table k place item f (suc rule) left) → In (miss_word k place (suc r) item) (cond b (rule_misses table k place item f (suc rule) left) (miss_word k place (suc rule) item ∷ rule_misses table k place item f (suc rule) left))
      later true h = h
      later false h = inr h

  rule_listed : (item : ℕ) (f : Finding) (rule left w : ℕ) → In w (rule_misses table k place item f rule left) → (r : ℕ) × (r < rule + left) × (table.meets r f k ≡ false) × (w ≡ miss_word k place (suc r) item)
  rule_listed item f rule zero w h = absurd h
  rule_listed item f rule (suc left) w h = go (table.meets rule f k) refl h (λ i. let x = rule_listed item f (suc rule) left w i in (x.0, omega (arith, x.1), x.2, x.3))
    where
      go : (b : Bool) → table.meets rule f k ≡ b → In w (cond b (rule_misses table k place item f (suc rule) left) (miss_word k place (suc rule) item ∷ rule_misses table k place item f (suc rule) left)) →
          (In w (rule_misses table k place item f (suc rule) left) → (r : ℕ) × (r < rule + suc left) × (table.meets r f k ≡ false) × (w ≡ miss_word k place (suc r) item)) →
          (r : ℕ) × (r < rule + suc left) × (table.meets r f k ≡ false) × (w ≡ miss_word k place (suc r) item)
      go true e i rest = rest i
      go false e (inl same) rest = (rule, omega arith, e, same)
      go false e (inr i) rest = rest i

  pub listed_item : (item rule : ℕ) (o : Option Finding) → Misses table k rule o → In (miss_word k place (suc rule) item) (item_misses table k place item o)
  listed_item item rule None h = absurd h
  listed_item item rule (Some f) h = listed_rule item f 0 table.count rule (omega arith) (omega (arith, h.0)) h.1

  pub item_listed : (item : ℕ) (o : Option Finding) (w : ℕ) → In w (item_misses table k place item o) → Missed item o w
  item_listed item None w h = absurd h
  item_listed item (Some f) w h = let x = rule_listed item f 0 table.count w h in (x.0, (omega (arith, x.1), x.2), x.3)

  -- what stands at some numbers
  pub listed_at : (g : ℕ → Option Finding) (ns : List ℕ) (n rule : ℕ) → In n ns → Misses table k rule (g n) → In (miss_word k place (suc rule) n) (misses_of table k place g ns)
  listed_at g [] n rule i h = absurd i
  listed_at g (m ∷ ms) n rule (inl same) h =
      in_left _ (item_misses table k place m (g m)) (misses_of table k place g ms) (subst (λ j. In (miss_word k place (suc rule) n) (item_misses table k place j (g j))) same (listed_item n rule (g n) h))
  listed_at g (m ∷ ms) n rule (inr i) h = in_right _ (item_misses table k place m (g m)) (misses_of table k place g ms) (listed_at g ms n rule i h)

  pub at_listed : (g : ℕ → Option Finding) (ns : List ℕ) (w : ℕ) → In w (misses_of table k place g ns) → (n : ℕ) × Missed n (g n) w
  at_listed g [] w h = absurd h
  at_listed g (m ∷ ms) w h = ⊎_elim (λ i. (m, item_listed m (g m) w i)) (λ i. at_listed g ms w i) (in_either w (item_misses table k place m (g m)) (misses_of table k place g ms) h)

module _ {Element : Type 0} (q : Terms Element) (s : Rules) (p : Survey) (sound : Sound p) (k : Class) where
  some_missed : {Finding : Type 0} {kind : Kind Finding} {better : Directions} (table : Table kind better) (rule : ℕ) (o : Option Finding) → Misses table k rule o → is_some o ≡ true
  some_missed table rule None h = absurd h
  some_missed table rule (Some f) h = refl

  leg_words : List ℕ
  leg_words = misses_of s.legs k leg_place (leg_item q p) leg_numbers

  circuit_words : List ℕ
  circuit_words = misses_of s.circuits k circuit_place (circuit_item q p) circuit_numbers

  whole_words : List ℕ
  whole_words = item_misses s.whole k whole_place 0 (Some (the_whole q p))

  pub listed : Listed q s p k
  unfolding leg_words circuit_words whole_words
  listed =
      record {
        legs =
            λ n rule h.
            in_left _ leg_words (circuit_words ++ whole_words)
            (listed_at s.legs k leg_place (leg_item q p) leg_numbers n rule (leg_numbered n (sound.leg_range n (sym (some_mapped (leg_finding q) (p.legs n)) ∙ some_missed s.legs rule (leg_item q p n) h))) h);
        circuits =
            λ n rule h.
            in_right _ leg_words (circuit_words ++ whole_words)
            (in_left _ circuit_words whole_words
            (listed_at s.circuits k circuit_place (circuit_item q p) circuit_numbers n rule (circuit_numbered n (sound.circuit_range n (sym (some_mapped (circuit_finding q p) (p.circuits n)) ∙ some_missed s.circuits rule (circuit_item q p n) h))) h));
        whole = λ rule h. in_right _ leg_words (circuit_words ++ whole_words) (in_right _ circuit_words whole_words (listed_item s.whole k whole_place 0 rule (Some (the_whole q p)) h));
        no_other =
            λ w h.
            ⊎_elim (λ i. inl (let x = at_listed s.legs k leg_place (leg_item q p) leg_numbers w i in (x.0, x.1.0, x.1.1, x.1.2)))
            (λ r.
            inr (⊎_elim (λ i. inl (let x = at_listed s.circuits k circuit_place (circuit_item q p) circuit_numbers w i in (x.0, x.1.0, x.1.1, x.1.2)))
            (λ i. inr (item_listed s.whole k whole_place 0 (Some (the_whole q p)) w i)) (in_either w circuit_words whole_words r)))
            (in_either w leg_words (circuit_words ++ whole_words) h);
      }
