-- What is gathered over findings and rules, and what findings that are no worse miss.
use Rattle.std.proofs.Common.{◌≡◌, ℕ, suc, ◌+◌, ◌<◌, ◌≤◌, Bool, true, false, ◌&&◌, List, [], ◌∷◌, length, get_or, drop, Decides, sym, refl, ap, ◌∙◌, ap₂, ⊎_elim, add-one, drop-cons}
use mathlib.Core.Bool.{and-true}
use Rattle.std.specs.List.{AllZip}
use Rattle.std.proofs.lemmas.List.Elements.{AllZip-get_or}
use Rattle.std.proofs.lemmas.List.{drop_all}
use Rattle.std.proofs.lemmas.Bool.{cases_Bool, both_ways}
use Rattle.std.proofs.lemmas.Bool.Decides.{Decides-below_and}
use Rattle.std.proofs.ByRecursion.{Decides-by_and}
use Rattle.standards.specs.declared.class.Class.{Class}
use Rattle.standards.specs.declared.finding.Directions.{Directions}
use Rattle.standards.specs.Gathering.{meets_first, all_meet, AllMeet, KeepsOrder}
use Rattle.standards.specs.NoWorse.{Kind, NoWorse}
use Rattle.standards.specs.Rules.{Table}
use Rattle.standards.proofs.Orders.{preorder}

first_last : (p e m : Bool) → ((p && e) && m) ≡ ((m && p) && e)
first_last true true true = refl
first_last true true false = refl
first_last true false true = refl
first_last true false false = refl
first_last false true true = refl
first_last false true false = refl
first_last false false true = refl
first_last false false false = refl

second_first : (p e r : Bool) → ((p && e) && r) ≡ (e && (p && r))
second_first true true r = refl
second_first true false r = refl
second_first false true r = refl
second_first false false r = refl

module _ {Finding : Type 0} {kind : Kind Finding} {better : Directions} (table : Table kind better) where
  -- one rule more
  pub rule_next : (n : ℕ) (f : Finding) (k : Class) (before : Bool) {r m more : Bool} → r ≡ (m && more) → m ≡ (meets_first table n f k && before)
      → more ≡ table.meets n f k → r ≡ (meets_first table (n + 1) f k && before)
  rule_next n f k before both so_far asked =
      both ∙ ap₂ (λ x y. x && y) so_far asked ∙ first_last (meets_first table n f k) before (table.meets n f k)
      ∙ ap (λ i. meets_first table i f k && before) (sym (add-one n))

  -- one finding more, judged under all rules
  pub finding_next : (fs : List Finding) (i : ℕ) (f : Finding) (k : Class) (n : ℕ) (before : Bool) {m : Bool}
      → i < length fs → f ≡ get_or fs i f → n ≡ table.count → m ≡ (meets_first table n f k && before)
      → (before && all_meet table (drop i fs) k) ≡ all_meet table fs k
      → (m && all_meet table (drop (i + 1) fs) k) ≡ all_meet table fs k
  finding_next fs i f k n before within read all_rules judged left =
      let rest = drop (i + 1) fs in
      let front : drop i fs ≡ f ∷ rest = rw add-one (drop-cons fs i f within ∙ ap (λ x. x ∷ drop (suc i) fs) (sym read)) in
      ap (λ b. b && all_meet table rest k) (judged ∙ ap (λ c. meets_first table c f k && before) all_rules)
      ∙ second_first (meets_first table table.count f k) before (all_meet table rest k)
      ∙ ap (λ l. before && all_meet table l k) (sym front)
      ∙ left

  pub finding_last : (fs : List Finding) (i : ℕ) (k : Class) {m : Bool} → length fs ≤ i
      → (m && all_meet table (drop i fs) k) ≡ all_meet table fs k → m ≡ all_meet table fs k
  finding_last fs i k {m} past left =
      sym (and-true m) ∙ ap (λ l. m && all_meet table l k) (sym (drop_all i fs past)) ∙ left

  pub decides_all_meet : (fs : List Finding) (k : Class) → Decides (all_meet table fs k) (AllMeet table fs k)
  decides_all_meet fs k =
      Decides-by_and (λ f. meets_first table table.count f k)
      (λ f. (rule : ℕ) → rule < table.count → table.meets rule f k ≡ true)
      (λ l. all_meet table l k)
      (λ f.
      Decides-below_and (λ rule. table.meets rule f k) (λ rule. table.meets rule f k ≡ true)
      (λ n. meets_first table n f k) (λ _. (λ e. e, λ e. e)) refl (λ _. refl) table.count)
      refl (λ _ _. refl) fs

  misses_one : (f g : Finding) → NoWorse kind better f g → (rule : ℕ) (k : Class)
      → table.meets rule f k ≡ false → table.meets rule g k ≡ false
  misses_one f g no_worse rule k missed =
      ⊎_elim (λ met. absurd (both_ways (table.meets rule f k) missed (table.law rule f g no_worse k met))) (λ e. e)
      (cases_Bool (table.meets rule g k))

  meets_no_less : (fs gs : List Finding) → AllZip (NoWorse kind better) fs gs → (k : Class) → AllMeet table gs k → AllMeet table fs k
  meets_no_less [] [] pairs k met = tt
  meets_no_less [] (g ∷ gs) pairs k met = absurd pairs
  meets_no_less (f ∷ fs) [] pairs k met = absurd pairs
  meets_no_less (f ∷ fs) (g ∷ gs) (no_worse, pairs) k (met, rest) =
      (λ rule within. table.law rule f g no_worse k (met rule within), meets_no_less fs gs pairs k rest)

  pub keeps_order : KeepsOrder table
  keeps_order =
      record {
        misses =
            λ fs gs pairs i within rule k missed d.
            misses_one (get_or fs i d) (get_or gs i d) (AllZip-get_or (NoWorse kind better) fs gs i d d pairs within) rule k (missed d);
        meets = meets_no_less;
        order = preorder kind better;
      }
