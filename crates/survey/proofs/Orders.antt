-- The keys and values of a map at numbers, as what stands in the order of the numbers. Assumes nothing.
use Rattle.std.proofs.Common.{◌≡◌, ℕ, zero, suc, ◌+◌, ◌<◌, ◌≤◌, Bool, false, cond, T, List, [], ◌∷◌, ◌++◌, length, Some, None, Option, Less, sym, refl, ap, ◌∙◌, subst, ap₂, ⊎_elim, arith}
use Rattle.std.specs.BTreeMap.{BTreeMap}
use Rattle.std.specs.BTreeMap.{keys, values}
use Rattle.std.specs.List as Finite
use Rattle.std.specs.Map.{keys_of, values_of}
use Rattle.std.specs.List.{range_with_len, AllByRecursion as All, list_all}
use Rattle.std.specs.Cmp.{means, below_irrefl, below_chain, ranks}
use Rattle.std.specs.Ordering.{nat_cmp}
use Rattle.std.specs.List.Sorted.{IsStrictlySortedBy}
use Rattle.std.specs.Option.{option_to_list}
use Rattle.std.proofs.lemmas.Bool.{cases_order, ne_eqb}
use Rattle.std.proofs.lemmas.Map.Entries.{length-keys_of, length-values_of}
use Rattle.records.specs.Ranges.{between}
use Rattle.plainbook.specs.Surveys.{standing, first_number}
use Rattle.survey.specs.Numbered.{Numbered, table}
use Rattle.survey.proofs.Tables.{left, right, unranged, ordered, seek, seek_head, seek_tail}
use Rattle.survey.proofs.Picks.{pick}

-- each key is above those before it, the first is at least a, and all are below b
abbrev Climb : ℕ → ℕ → List ℕ → Type 0
Climb a b [] = Unit {0}
Climb a b (k ∷ ks) = (a ≤ k) × (k < b) × Climb (k + 1) b ks

-- a test of what stands
abbrev pub on_some : {X : Type 0} → (X → Bool) → Option X → Bool
on_some test None = false
on_some test (Some x) = test x

first_same : (f g : ℕ → Bool) (a n : ℕ) → ((q : ℕ) → a ≤ q → f q ≡ g q) → first_number f (range_with_len a n) ≡ first_number g (range_with_len a n)
first_same f g a zero h = refl
first_same f g a (suc n) h = λ i. cond (h a (omega arith) i) (Some a) (first_same f g (a + 1) n (λ q l. h q (omega arith)) i)

pub first_equal : (f g : ℕ → Bool) (ns : List ℕ) → ((q : ℕ) → f q ≡ g q) → first_number f ns ≡ first_number g ns
first_equal f g [] h = refl
first_equal f g (n ∷ ns) h = λ i. cond (h n i) (Some n) (first_equal f g ns h i)

first_none : (f : ℕ → Bool) (a n : ℕ) → ((q : ℕ) → f q ≡ false) → first_number f (range_with_len a n) ≡ None
first_none f a zero h = refl
first_none f a (suc n) h = λ i. cond (h a i) (Some a) (first_none f (a + 1) n h i)

module _ {X : Type 0} where
  standing_same : (f g : ℕ → Option X) (a n : ℕ) → ((q : ℕ) → a ≤ q → f q ≡ g q) → standing f (range_with_len a n) ≡ standing g (range_with_len a n)
  standing_same f g a zero h = refl
  standing_same f g a (suc n) h = λ i. option_to_list (h a (omega arith) i) ++ standing_same f g (a + 1) n (λ q l. h q (omega arith)) i

  standing_none : (f : ℕ → Option X) (a n : ℕ) → ((q : ℕ) → f q ≡ None) → standing f (range_with_len a n) ≡ []
  standing_none f a zero h = refl
  standing_none f a (suc n) h = λ i. option_to_list (h a i) ++ standing_none f (a + 1) n h i

  miss : (es : List (ℕ × X)) (a b q : ℕ) → Climb a b (keys_of es) → q < a → seek es q ≡ None
  miss [] a b q h l = refl
  miss (e ∷ es) a b q h l = seek_tail q e es (ne_eqb q e.0 (λ s. omega (arith, h.0, s))) ∙ miss es (e.0 + 1) b q h.2 (omega (arith, h.0))

  past_head : (a : ℕ) (e : ℕ × X) (es : List (ℕ × X)) → a ≡ e.0 → (q : ℕ) → a + 1 ≤ q → seek (e ∷ es) q ≡ seek es q
  past_head a e es same q l = seek_tail q e es (ne_eqb q e.0 (λ s. omega arith))

  standing_vals : (n a b : ℕ) (es : List (ℕ × X)) → b ≡ a + n → Climb a b (keys_of es) → standing (seek es) (range_with_len a n) ≡ values_of es
  standing_vals n a b [] e h = standing_none _ a n (λ q. refl)
  standing_vals zero a b (p ∷ es) e h = absurd (omega (arith, h.0, h.1))
  standing_vals (suc n) a b (p ∷ es) e h =
      ⊎_elim
      (λ (eq : a ≡ p.0).
      ap₂ (λ o xs. option_to_list o ++ xs) (seek_head a p es eq)
      (standing_same _ _ (a + 1) n (past_head a p es eq) ∙ standing_vals n (a + 1) b es (omega arith) (subst (λ c. Climb (c + 1) b (keys_of es)) (sym eq) h.2)))
      (⊎_elim
      (λ (l : a < p.0). ap₂ (λ o xs. option_to_list o ++ xs) (miss (p ∷ es) p.0 b a (omega arith, h.1, h.2) l) (standing_vals n (a + 1) b (p ∷ es) (omega arith) (omega arith, h.1, h.2)))
      (λ (l : p.0 < a). absurd (omega (arith, h.0))))
      (cases_order a p.0)

  first_vals : (t : ℕ → X → Bool) (n a b : ℕ) (es : List (ℕ × X)) → b ≡ a + n → Climb a b (keys_of es) →
      first_number (λ q. on_some (t q) (seek es q)) (range_with_len a n) ≡ pick t es
  first_vals t n a b [] e h = first_none _ a n (λ q. refl)
  first_vals t zero a b (p ∷ es) e h = absurd (omega (arith, h.0, h.1))
  first_vals t (suc n) a b (p ∷ es) e h =
      ⊎_elim
      (λ (eq : a ≡ p.0).
      ap₂ (λ test rest. cond test (Some a) rest) (ap (on_some (t a)) (seek_head a p es eq))
      (first_same _ _ (a + 1) n (λ q l. ap (on_some (t q)) (past_head a p es eq q l)) ∙ first_vals t n (a + 1) b es (omega arith) (subst (λ c. Climb (c + 1) b (keys_of es)) (sym eq) h.2))
      ∙ ap (λ j. cond (t j p.1) (Some j) (pick t es)) eq)
      (⊎_elim
      (λ (l : a < p.0). ap₂ (λ o rest. cond (on_some (t a) o) (Some a) rest) (miss (p ∷ es) p.0 b a (omega arith, h.1, h.2) l) (first_vals t n (a + 1) b (p ∷ es) (omega arith) (omega arith, h.1, h.2)))
      (λ (l : p.0 < a). absurd (omega (arith, h.0))))
      (cases_order a p.0)

above : (k : ℕ) (ks : List ℕ) → Finite.AllByRecursion (λ y. nat_cmp k y ≡ Less) ks → All (λ y. k + 1 ≤ y) ks
above k [] h = tt
above k (y ∷ ks) h = (omega (arith, means (λ (x y : ℕ). x < y) below_irrefl below_chain nat_cmp ranks k y Less h.0), above k ks h.1)

climb : (high a : ℕ) (ks : List ℕ) → IsStrictlySortedBy nat_cmp ks → T (list_all (between 1 high) ks) → All (λ y. a ≤ y) ks → Climb a (1 + high) ks
unfolding IsStrictlySortedBy
climb high a [] o t h = tt
climb high a (k ∷ ks) o t h =
    (h.0, omega (arith, unranged high k (left (between 1 high k) _ t)), climb high (k + 1) ks o.1 (right (between 1 high k) _ t) (above k ks o.0))

firsts : (high : ℕ) (ks : List ℕ) → T (list_all (between 1 high) ks) → All (λ y. 1 ≤ y) ks
firsts high [] t = tt
firsts high (k ∷ ks) t = ((unranged high k (left (between 1 high k) _ t)).0, firsts high ks (right (between 1 high k) _ t))

module _ {X : Type 0} (high : ℕ) (m : BTreeMap ℕ X) (o : Numbered high m) where
  rising : Climb 1 (1 + high) (keys m)
  rising = climb high 1 (keys m) (ordered high m o) o.1 (firsts high (keys m) o.1)

  -- the values are what stands, in the order of the numbers
  pub vals_stand : standing (table m) (range_with_len 1 high) ≡ values m
  vals_stand = standing_vals high 1 (1 + high) m.entries refl rising

  -- the first number that passes is the first key that does
  pub first_key : (t : ℕ → X → Bool) → first_number (λ q. on_some (t q) (table m q)) (range_with_len 1 high) ≡ pick t (m.entries)
  first_key t = first_vals t high 1 (1 + high) m.entries refl rising

  few_keys : length (keys m) ≤ high
  few_keys = omega (arith, few 1 (1 + high) (keys m) (omega arith) rising)
    where
      few : (a b : ℕ) (ks : List ℕ) → a ≤ b → Climb a b ks → length ks + a ≤ b
      few a b [] l h = omega arith
      few a b (k ∷ ks) l h = let rest = few (k + 1) b ks (omega (arith, h.1)) h.2 in omega (arith, rest, h.0)

  pub few_values : length (values m) ≤ high
  few_values = omega (arith, few_keys, length-keys_of m.entries, length-values_of m.entries)
