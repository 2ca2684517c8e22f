-- What every rule meets on every item. Assumes nothing.
use Rattle.std.proofs.Common.{◌≡◌, ℕ, zero, suc, ◌<◌, Bool, true, List, [], ◌∷◌, ◌++◌, map, is_some, Some, None, Option, sym, refl, ap, ◌∙◌, subst, inl, inr, ⊎_elim, arith}
use Rattle.std.specs.Option.{option_map, option_to_list}
use Rattle.std.proofs.lemmas.Bool.{and_parts, and_from, cases_eq, both_ways}
use Rattle.records.specs.Ranges.{is_leg_number, is_circuit_number}
use Rattle.quantities.specs.Terms.{Terms}
use Rattle.standards.specs.declared.class.Class.{Class}
use Rattle.standards.specs.declared.finding.Directions.{Directions}
use Rattle.standards.specs.Classes.{least, Least}
use Rattle.standards.specs.Gathering.{meets_first, all_meet}
use Rattle.standards.specs.NoWorse.{Kind}
use Rattle.standards.specs.Rules.{Rules, Table}
use Rattle.standards.proofs.Bests.{least_is}
use Rattle.standards.specs.Observed.{leg_finding}
use Rattle.plainbook.specs.Findings.{circuit_finding, leg_findings, circuit_findings, the_whole}
use Rattle.plainbook.specs.Grades.{met, grade}
use Rattle.plainbook.specs.Promise.{Meets, Earned, Highest, leg_item, circuit_item}
use Rattle.plainbook.specs.Surveys.{In, Survey, standing, leg_numbers, circuit_numbers}
use Rattle.plainbook.proofs.Invariant.{Sound}
use Rattle.plainbook.proofs.Numbers.{leg_numbered, circuit_numbered}
use Rattle.plainbook.proofs.Standing.{some_mapped}

pub map_standing : {X Y : Type 0} (f : X → Y) (g : ℕ → Option X) (ns : List ℕ) → map f (standing g ns) ≡ standing (λ n. option_map f (g n)) ns
map_standing f g [] = refl
map_standing f g (n ∷ ns) = go (g n) (map_standing f g ns)
  where
    go : (o : Option _) → map f (standing g ns) ≡ standing (λ n. option_map f (g n)) ns → map f (option_to_list o ++ standing g ns) ≡ option_to_list (option_map f o) ++ standing (λ n. option_map f (g n)) ns
    go None e = e
    go (Some x) e = ap (λ xs. f x ∷ xs) e

module _ {Finding : Type 0} {kind : Kind Finding} {better : Directions} (table : Table kind better) (k : Class) where
  rules_met : (n : ℕ) (f : Finding) → meets_first table n f k ≡ true → (rule : ℕ) → rule < n → table.meets rule f k ≡ true
  rules_met zero f e rule h = absurd (omega arith)
  rules_met (suc n) f e rule h =
      let p = and_parts (table.meets n f k) (meets_first table n f k) e in
      ⊎_elim (λ same. ap (λ r. table.meets r f k) same ∙ p.0) (λ other. rules_met n f p.1 rule (omega (arith, other))) (cases_eq rule n)

  met_rules : (n : ℕ) (f : Finding) → ((rule : ℕ) → rule < n → table.meets rule f k ≡ true) → meets_first table n f k ≡ true
  met_rules zero f h = refl
  met_rules (suc n) f h = and_from _ _ (h n (omega arith)) (met_rules n f (λ rule l. h rule (omega arith)))

  -- what is gathered over what stands at some numbers, item by item
  pub items_met : (g : ℕ → Option Finding) (ns : List ℕ) → all_meet table (standing g ns) k ≡ true → (n : ℕ) → In n ns → Meets table k (g n)
  items_met g [] e n i = absurd i
  items_met g (m ∷ ms) e n i = go (g m) refl e i (λ h j. items_met g ms h n j)
    where
      here : (o : Option Finding) → g m ≡ o → Meets table k o → n ≡ m → Meets table k (g n)
      here o is h same = subst (Meets table k) (sym (ap g same ∙ is)) h

      go : (o : Option Finding) → g m ≡ o → all_meet table (option_to_list o ++ standing g ms) k ≡ true → In n (m ∷ ms) → (all_meet table (standing g ms) k ≡ true → In n ms → Meets table k (g n)) → Meets table k (g n)
      go None is h (inl same) rest = here None is tt same
      go None is h (inr there) rest = rest h there
      go (Some f) is h (inl same) rest = here (Some f) is (rules_met table.count f (and_parts (meets_first table table.count f k) _ h).0) same
      go (Some f) is h (inr there) rest = rest (and_parts (meets_first table table.count f k) _ h).1 there

  pub met_items : (g : ℕ → Option Finding) (ns : List ℕ) → ((n : ℕ) → Meets table k (g n)) → all_meet table (standing g ns) k ≡ true
  met_items g [] h = refl
  met_items g (m ∷ ms) h = go (g m) (h m) (met_items g ms h)
    where
      go : (o : Option Finding) → Meets table k o → all_meet table (standing g ms) k ≡ true → all_meet table (option_to_list o ++ standing g ms) k ≡ true
      go None here rest = rest
      go (Some f) here rest = and_from _ _ (met_rules table.count f here) rest

  -- where nothing stands but at those numbers
  pub all_items_met : (ok : ℕ → Bool) (g : ℕ → Option Finding) (ns : List ℕ) → ((n : ℕ) → is_some (g n) ≡ true → ok n ≡ true) → ((n : ℕ) → ok n ≡ true → In n ns) → all_meet table (standing g ns) k ≡ true → (n : ℕ) → Meets table k (g n)
  all_items_met ok g ns ranged numbered e n = go (g n) refl
    where
      go : (o : Option Finding) → g n ≡ o → Meets table k (g n)
      go None is = subst (Meets table k) (sym is) tt
      go (Some f) is = items_met g ns e n (numbered n (ranged n (ap is_some is)))

  pub one_met : (f : Finding) → all_meet table (f ∷ []) k ≡ true → Meets table k (Some f)
  one_met f e = rules_met table.count f (and_parts (meets_first table table.count f k) true e).0

  pub met_one : (f : Finding) → Meets table k (Some f) → all_meet table (f ∷ []) k ≡ true
  met_one f h = and_from _ _ (met_rules table.count f h) refl

module _ {Element : Type 0} (q : Terms Element) (s : Rules) (p : Survey) where
  pub earned : Sound p → (k : Class) → met q s p k ≡ true → Earned q s p k
  earned sound k e =
      let p0 = and_parts (all_meet s.legs (leg_findings q p) k) _ e in
      let p1 = and_parts (all_meet s.circuits (circuit_findings q p) k) _ p0.1 in
      record {
        legs =
            all_items_met s.legs k is_leg_number (leg_item q p) leg_numbers (λ n h. sound.leg_range n (sym (some_mapped (leg_finding q) (p.legs n)) ∙ h)) leg_numbered
            (ap (λ fs. all_meet s.legs fs k) (sym (map_standing (leg_finding q) p.legs leg_numbers)) ∙ p0.0);
        circuits =
            all_items_met s.circuits k is_circuit_number (circuit_item q p) circuit_numbers (λ n h. sound.circuit_range n (sym (some_mapped (circuit_finding q p) (p.circuits n)) ∙ h)) circuit_numbered
            (ap (λ fs. all_meet s.circuits fs k) (sym (map_standing (circuit_finding q p) p.circuits circuit_numbers)) ∙ p1.0);
        whole = one_met s.whole k (the_whole q p) p1.1;
      }

  pub gained : (k : Class) → Earned q s p k → met q s p k ≡ true
  gained k h =
      and_from _ _ (ap (λ fs. all_meet s.legs fs k) (map_standing (leg_finding q) p.legs leg_numbers) ∙ met_items s.legs k (leg_item q p) leg_numbers h.legs)
      (and_from _ _ (ap (λ fs. all_meet s.circuits fs k) (map_standing (circuit_finding q p) p.circuits circuit_numbers) ∙ met_items s.circuits k (circuit_item q p) circuit_numbers h.circuits)
      (met_one s.whole k (the_whole q p) h.whole))

  pub highest : Sound p → Highest q s p (grade q s p).best
  highest sound = go (least (met q s p)) (least_is (met q s p))
    where
      go : (r : Option Class) → Least (met q s p) r → Highest q s p r
      go None h = λ k e. both_ways (met q s p k) (h k) (gained k e)
      go (Some best) h = (earned sound best h.0, λ k e. h.1 k (gained k e))
