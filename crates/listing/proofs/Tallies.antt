-- The misses of what stands in a map, one value after another. Assumes nothing.
use Rattle.std.proofs.Common.{◌≡◌, ℕ, zero, suc, ◌+◌, ◌*◌, ◌≤◌, Bool, true, false, cond, T, List, [], ◌∷◌, ◌++◌, length, Some, None, Option, sym, refl, ap, ◌∙◌, ap₂, arith}
use Rattle.std.specs.BTreeMap.{BTreeMap}
use Rattle.std.specs.BTreeMap.{values}
use Rattle.std.specs.List.{range_with_len, flat_map}
use Rattle.std.specs.Option.{option_map, option_to_list}
use Rattle.std.proofs.lemmas.List.{length-append}
use Rattle.std.proofs.lemmas.Bool.{eqb-true}
use Rattle.records.specs.declared.circuit.Circuit.{Circuit}
use Rattle.records.specs.declared.leg.Leg.{Leg}
use Rattle.records.specs.Circuits.{circuit_record}
use Rattle.records.specs.Legs.{leg_record}
use Rattle.quantities.specs.Terms.{Terms}
use Rattle.standards.specs.declared.class.Class.{Class}
use Rattle.standards.specs.declared.finding.Directions.{Directions}
use Rattle.standards.specs.NoWorse.{Kind}
use Rattle.standards.specs.Observed.{leg_finding}
use Rattle.standards.specs.Rules.{Rules, Table}
use Rattle.plainbook.specs.Findings.{circuit_finding, the_whole}
use Rattle.plainbook.specs.Misses.{miss_word, rule_misses, item_misses, misses_of, leg_misses, circuit_misses, whole_misses, survey_misses, leg_place, circuit_place, whole_place}
use Rattle.plainbook.specs.Surveys.{standing, leg_numbers, circuit_numbers}
use Rattle.survey.specs.declared.book.Book.{Book}
use Rattle.survey.specs.Books.{surveyed}
use Rattle.survey.specs.Numbered.{Numbered, table}
use Rattle.survey.specs.Standing.{own_leg, own_circuit}
use Rattle.listing.specs.Listed.{item_listing}
use Rattle.listing.specs.Writing.{put}
use Rattle.survey.proofs.Orders.{vals_stand, few_values}
use Rattle.survey.proofs.Tables.{every_at}
use Rattle.listing.proofs.Writing.{put_put, put_none}

passed : (b : Bool) → T b → b ≡ true
passed true t = refl
passed false t = absurd t

module _ {Finding : Type 0} {kind : Kind Finding} {better : Directions} (rules : Table kind better) (k : Class) (place : ℕ) where
  rules_few : (item : ℕ) (f : Finding) (rule left : ℕ) → length (rule_misses rules k place item f rule left) ≤ left
  rules_few item f rule zero = omega arith
  rules_few item f rule (suc left) = go (rules.meets rule f k) (rules_few item f (suc rule) left)
    where
      go : (b : Bool) → length (rule_misses rules k place item f (suc rule) left) ≤ left → length (cond b (rule_misses rules k place item f (suc rule) left) (miss_word k place (suc rule) item ∷ rule_misses rules k place item f (suc rule) left)) ≤ suc left
      go true h = omega arith
      go false h = omega arith

  module _ {X : Type 0} (number : X → ℕ) (shown : X → Finding) where
    abbrev pub listing : X → List ℕ
    listing = item_listing rules k place number shown

    pub joined_few : (xs : List X) → length (flat_map listing xs) ≤ 255 * length xs
    joined_few [] = omega arith
    joined_few (x ∷ xs) = omega (arith, length-append (listing x) (flat_map listing xs), rules_few (number x) (shown x) 0 rules.count, rules.few, joined_few xs)

    misses_joined : {Y : Type 0} (g : X → Y) (f : Y → Finding) → ((x : X) → f (g x) ≡ shown x) → (t : ℕ → Option X) → ((n : ℕ) (x : X) → t n ≡ Some x → number x ≡ n) → (ns : List ℕ) → misses_of rules k place (λ n. option_map f (option_map g (t n))) ns ≡ flat_map listing (standing t ns)
    misses_joined g f same t own [] = refl
    misses_joined g f same t own (n ∷ ns) = go (t n) refl (misses_joined g f same t own ns)
      where
        go : (o : Option X) → t n ≡ o → misses_of rules k place (λ n. option_map f (option_map g (t n))) ns ≡ flat_map listing (standing t ns) →
            item_misses rules k place n (option_map f (option_map g o)) ++ misses_of rules k place (λ n. option_map f (option_map g (t n))) ns ≡ flat_map listing (option_to_list o ++ standing t ns)
        go None is rest = rest
        go (Some x) is rest = ap₂ ◌++◌ (ap₂ (λ m y. item_misses rules k place m (Some y)) (sym (own n x is)) (same x)) rest

    pub map_joined : {Y : Type 0} (g : X → Y) (f : Y → Finding) → ((x : X) → f (g x) ≡ shown x) → (high : ℕ) (m : BTreeMap ℕ X) → Numbered high m → ((n : ℕ) (x : X) → table m n ≡ Some x → number x ≡ n) → misses_of rules k place (λ n. option_map f (option_map g (table m n))) (range_with_len 1 high) ≡ flat_map listing (values m)
    map_joined g f same high m o own = misses_joined g f same (table m) own (range_with_len 1 high) ∙ ap (flat_map listing) (vals_stand high m o)

-- ---- values listed one after another
-- what is listed so far, with what is left, gives all
pub record SoFar {X : Type 0} (list : X → List ℕ) (left all : List X) (at start : ℕ) (ws before : List ℕ) : Type 0 where
  pub end : at + length (flat_map list left) ≡ start + length (flat_map list all)
  pub words : put at (flat_map list left) ws ≡ put start (flat_map list all) before

module _ {X : Type 0} (list : X → List ℕ) where
  pub so_far_start : (left all : List X) (start : ℕ) (ws : List ℕ) → left ≡ all → SoFar list left all start start ws ws
  so_far_start left all start ws same = record { end = ap (λ l. start + length (flat_map list l)) same; words = ap (λ l. put start (flat_map list l) ws) same }

  pub so_far_turn : (xs ys all : List X) (x : X) (at end start : ℕ) (ws after before : List ℕ) → xs ≡ x ∷ ys → end ≡ at + length (list x) → after ≡ put at (list x) ws
      → SoFar list xs all at start ws before → SoFar list ys all end start after before
  so_far_turn xs ys all x at end start ws after before turn is wrote h =
      record {
        end = omega (arith, is, ap (λ l. length (flat_map list l)) turn, length-append (list x) (flat_map list ys), h.end);
        words = ap₂ (λ n v. put n (flat_map list ys) v) is wrote ∙ put_put at (list x) (flat_map list ys) ws ∙ ap (λ l. put at (flat_map list l) ws) (sym turn) ∙ h.words;
      }

  pub so_far_end : (left all : List X) (at start : ℕ) (ws before : List ℕ) → left ≡ [] → SoFar list left all at start ws before → at ≡ start + length (flat_map list all)
  so_far_end left all at start ws before none h = omega (arith, h.end, ap (λ l. length (flat_map list l)) none)

  pub so_far_words : (left all : List X) (at start : ℕ) (ws before : List ℕ) → left ≡ [] → SoFar list left all at start ws before → ws ≡ put start (flat_map list all) before
  so_far_words left all at start ws before none h = sym (put_none at ws) ∙ ap (λ l. put at (flat_map list l) ws) (sym none) ∙ h.words

-- ---- a book's legs and circuits
module _ {Q S Element : Type 0} (q : Terms Element) (s : Rules) (b : Book Q S) (k : Class) where
  abbrev pub leg_listing : Leg → List ℕ
  leg_listing = listing s.legs k leg_place (λ l. l.number.value) (λ l. leg_finding q (leg_record l))

  abbrev pub circuit_listing : Circuit → List ℕ
  circuit_listing = listing s.circuits k circuit_place (λ c. c.number.value) (λ c. circuit_finding q (surveyed b) (circuit_record c))

  pub legs_joined : leg_misses q s (surveyed b) k ≡ flat_map leg_listing (values b.legs)
  unfolding leg_numbers
  legs_joined =
      map_joined s.legs k leg_place (λ l. l.number.value) (λ l. leg_finding q (leg_record l)) leg_record (leg_finding q) (λ l. refl) 128 b.legs b.legs_numbered (λ n l e. eqb-true _ n (passed _ (every_at own_leg b.legs b.own_legs n l e)))

  pub circuits_joined : circuit_misses q s (surveyed b) k ≡ flat_map circuit_listing (values b.circuits)
  unfolding circuit_numbers
  circuits_joined =
      map_joined s.circuits k circuit_place (λ c. c.number.value) (λ c. circuit_finding q (surveyed b) (circuit_record c)) circuit_record (circuit_finding q (surveyed b)) (λ c. refl) 32 b.circuits b.circuits_numbered (λ n c e. eqb-true _ n (passed _ (every_at own_circuit b.circuits b.own_circuits n c e)))

  pub legs_few : length (flat_map leg_listing (values b.legs)) ≤ 32640
  legs_few =
      omega (arith, joined_few s.legs k leg_place (λ l. l.number.value) (λ l. leg_finding q (leg_record l)) (values b.legs), few_values 128 b.legs b.legs_numbered)

  pub circuits_few : length (flat_map circuit_listing (values b.circuits)) ≤ 8160
  circuits_few =
      omega (arith, joined_few s.circuits k circuit_place (λ c. c.number.value) (λ c. circuit_finding q (surveyed b) (circuit_record c)) (values b.circuits), few_values 32 b.circuits b.circuits_numbered)

  pub all_few : length (survey_misses q s (surveyed b) k) ≤ 41055
  all_few =
      let p = surveyed b in
      omega (arith, length-append (leg_misses q s p k) (circuit_misses q s p k ++ whole_misses q s p k), length-append (circuit_misses q s p k) (whole_misses q s p k), ap length legs_joined, legs_few, ap length circuits_joined, circuits_few, rules_few s.whole k whole_place 0 (the_whole q p) 0 s.whole.count, s.whole.few)
