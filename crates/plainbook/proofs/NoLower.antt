-- No worse, no lower: items that pair off, the second's no worse. Assumes nothing.
use Rattle.std.proofs.Common.{◌≡◌, ℕ, ◌+◌, ◌-◌, ◌^◌, ◌≤◌, min, true, false, cond, List, [], ◌∷◌, ◌++◌, is_some, Some, None, Option, sym, refl, ap, ◌∙◌, subst, ⊎_elim, le_antisymm, arith}
use Rattle.std.specs.Option.{option_to_list}
use Rattle.std.proofs.lemmas.Bool.{cases_Bool, both_ways, false≢true}
use Rattle.quantities.specs.Terms.{Terms}
use Rattle.standards.specs.declared.class.Class.{Class}
use Rattle.standards.specs.declared.finding.CircuitFinding.{CircuitFinding}
use Rattle.standards.specs.declared.finding.Directions.{Directions}
use Rattle.standards.specs.NoWorse.{Kind, NoWorse, leg_kind, circuit_kind, whole_kind}
use Rattle.standards.specs.Rules.{Rules, Table}
use Rattle.standards.proofs.Orders.{preorder}
use Rattle.plainbook.specs.Findings.{circuit_finding, the_whole, whole_finding, closed_count, closure_sum}
use Rattle.plainbook.specs.Promise.{Misses, Meets, Pairing, AtLeast, Earned, Highest, NoLower, leg_item, circuit_item}
use Rattle.plainbook.specs.Surveys.{In, Survey, standing, circuit_numbers}
use Rattle.plainbook.proofs.Invariant.{Sound}
use Rattle.plainbook.proofs.Items.{highest, map_standing}
use Rattle.plainbook.proofs.Numbers.{sum, sum_into, circuit_numbered, circuit_numbers_distinct}
use Rattle.plainbook.proofs.Standing.{some_mapped}

pub some_is : {X : Type 0} (o : Option X) → is_some o ≡ true → (x : X) × (o ≡ Some x)
some_is None e = absurd (false≢true e)
some_is (Some x) e = (x, refl)

-- ---- one item and its partner
module _ {Finding : Type 0} {kind : Kind Finding} {better : Directions} (table : Table kind better) (f g : ℕ → Option Finding) (pairs : Pairing kind better f g) where
  missed : (k : Class) (rule : ℕ) (x y : Finding) → NoWorse kind better y x → table.meets rule y k ≡ false → table.meets rule x k ≡ false
  missed k rule x y w e = ⊎_elim (λ met. absurd (both_ways (table.meets rule y k) e (table.law rule y x w k met))) (λ h. h) (cases_Bool (table.meets rule x k))

  pub pair_misses : (k : Class) (rule n : ℕ) → Misses table k rule (g n) → Misses table k rule (f (pairs.back n))
  pair_misses k rule n = go (g n) refl
    where
      go : (o : Option Finding) → g n ≡ o → Misses table k rule o → Misses table k rule (f (pairs.back n))
      go None is h = absurd h
      go (Some y) is h =
          let x = some_is (f (pairs.back n)) (pairs.stands_back n (ap is_some is)) in
          subst (Misses table k rule) (sym x.1) (h.0, missed k rule x.0 y (pairs.no_worse n x.0 y x.1 is) h.1)

  pub pair_meets : (k : Class) → ((n : ℕ) → Meets table k (f n)) → (n : ℕ) → Meets table k (g n)
  pair_meets k all n = go (g n) refl
    where
      go : (o : Option Finding) → g n ≡ o → Meets table k (g n)
      go None is = subst (Meets table k) (sym is) tt
      go (Some y) is =
          let x = some_is (f (pairs.back n)) (pairs.stands_back n (ap is_some is)) in
          let met : Meets table k (Some x.0) = subst (Meets table k) x.1 (all (pairs.back n)) in
          subst (Meets table k) (sym is) (λ rule l. table.law rule y x.0 (pairs.no_worse n x.0 y x.1 is) k (met rule l))

-- ---- the whole
abbrev one_closed : Option CircuitFinding → ℕ
one_closed None = 0
one_closed (Some f) = cond f.form.closed 1 0

abbrev one_closure : Option CircuitFinding → ℕ
one_closure None = 0
one_closure (Some f) = f.closure

closed_sum : (g : ℕ → Option CircuitFinding) (ns : List ℕ) → closed_count (standing g ns) ≡ sum (λ n. one_closed (g n)) ns
closed_sum g [] = refl
closed_sum g (n ∷ ns) = go (g n) (closed_sum g ns)
  where
    go : (o : Option CircuitFinding) → closed_count (standing g ns) ≡ sum (λ n. one_closed (g n)) ns → closed_count (option_to_list o ++ standing g ns) ≡ one_closed o + sum (λ n. one_closed (g n)) ns
    go None e = omega (arith, e)
    go (Some f) e = ap (λ m. cond f.form.closed 1 0 + m) e

closures_sum : (g : ℕ → Option CircuitFinding) (ns : List ℕ) → closure_sum (standing g ns) ≡ sum (λ n. one_closure (g n)) ns
closures_sum g [] = refl
closures_sum g (n ∷ ns) = go (g n) (closures_sum g ns)
  where
    go : (o : Option CircuitFinding) → closure_sum (standing g ns) ≡ sum (λ n. one_closure (g n)) ns → closure_sum (option_to_list o ++ standing g ns) ≡ one_closure o + sum (λ n. one_closure (g n)) ns
    go None e = omega (arith, e)
    go (Some f) e = ap (λ m. f.closure + m) e

module _ (better : Directions) (f g : ℕ → Option CircuitFinding) (pairs : Pairing circuit_kind better f g) (in_f : (n : ℕ) → is_some (f n) ≡ true → In n circuit_numbers) (in_g : (n : ℕ) → is_some (g n) ≡ true → In n circuit_numbers) where
  none_of : (value : Option CircuitFinding → ℕ) → value None ≡ 0 → (o : Option CircuitFinding) → is_some o ≡ false → value o ≡ 0
  none_of value zero_none None e = zero_none
  none_of value zero_none (Some x) e = absurd (false≢true (sym e))

  -- the partner of an item of g
  partner : (n : ℕ) → is_some (g n) ≡ true → (x : CircuitFinding) × (y : CircuitFinding) × (f (pairs.back n) ≡ Some x) × (g n ≡ Some y) × NoWorse circuit_kind better y x
  partner n e =
      let y = some_is (g n) e in
      let x = some_is (f (pairs.back n)) (pairs.stands_back n e) in
      (x.0, y.0, x.1, y.1, pairs.no_worse n x.0 y.0 x.1 y.1)

  -- a sum over g is no greater than over f
  sum_less : (value : Option CircuitFinding → ℕ) → value None ≡ 0 → ((x y : CircuitFinding) → NoWorse circuit_kind better y x → value (Some y) ≤ value (Some x)) → sum (λ n. value (g n)) circuit_numbers ≤ sum (λ n. value (f n)) circuit_numbers
  sum_less value zero_none less =
      sum_into (λ n. is_some (g n)) (λ n. value (g n)) (λ n. value (f n)) pairs.back circuit_numbers circuit_numbers circuit_numbers_distinct
      (record {
        nothing = λ m e. none_of value zero_none (g m) e;
        has = λ m i e. in_f (pairs.back m) (pairs.stands_back m e);
        less = λ m e. let p = partner m e in let h = less p.0 p.1 p.4 in omega (arith, h, ap value p.2, ap value p.3);
        own = λ m n e e' same. sym (pairs.there_back m e) ∙ ap pairs.there same ∙ pairs.there_back n e';
      })

  -- and the other way round, where the values of partners are equal
  sum_more : (value : Option CircuitFinding → ℕ) → value None ≡ 0 → ((x y : CircuitFinding) → NoWorse circuit_kind better y x → value (Some x) ≤ value (Some y)) → sum (λ n. value (f n)) circuit_numbers ≤ sum (λ n. value (g n)) circuit_numbers
  sum_more value zero_none less =
      sum_into (λ n. is_some (f n)) (λ n. value (f n)) (λ n. value (g n)) pairs.there circuit_numbers circuit_numbers circuit_numbers_distinct
      (record {
        nothing = λ m e. none_of value zero_none (f m) e;
        has = λ m i e. in_g (pairs.there m) (pairs.stands_there m e);
        less =
            λ m e.
            let p = partner (pairs.there m) (pairs.stands_there m e) in
            let h = less p.0 p.1 p.4 in
            omega (arith, h, ap value (sym (ap f (pairs.back_there m e)) ∙ p.2), ap value p.3);
        own = λ m n e e' same. sym (pairs.back_there m e) ∙ ap pairs.back same ∙ pairs.back_there n e';
      })

  as_closed : (x y : CircuitFinding) → NoWorse circuit_kind better y x → one_closed (Some y) ≡ one_closed (Some x)
  as_closed x y w = ap (λ o. cond o.form.closed 1 0) w.others

  counts : closed_count (standing g circuit_numbers) ≡ closed_count (standing f circuit_numbers)
  counts =
      let down = sum_less one_closed refl (λ x y w. let e = as_closed x y w in omega (arith, e)) in
      let up = sum_more one_closed refl (λ x y w. let e = as_closed x y w in omega (arith, e)) in
      closed_sum g circuit_numbers ∙ le_antisymm down up ∙ sym (closed_sum f circuit_numbers)

  sums : closure_sum (standing g circuit_numbers) ≤ closure_sum (standing f circuit_numbers)
  sums = let down = sum_less one_closure refl (λ x y w. w.sizes.0) in omega (arith, down, closures_sum g circuit_numbers, closures_sum f circuit_numbers)

  pub whole_no_worse : NoWorse whole_kind better (whole_finding (standing g circuit_numbers)) (whole_finding (standing f circuit_numbers))
  whole_no_worse =
      let same = (preorder whole_kind better).same (whole_finding (standing g circuit_numbers)) in
      let less : min (closure_sum (standing g circuit_numbers)) (2 ^ 64 - 1) ≤ min (closure_sum (standing f circuit_numbers)) (2 ^ 64 - 1) = omega (arith, sums) in
      record { sizes = (less, tt); a = same.a; b = same.b; c = same.c; others = ap (λ n. record { circuits = n; closures = 0 }) counts }

-- ---- two surveys
at_least : {Element : Type 0} (q : Terms Element) (s : Rules) (a b : Survey) (best_a best_b : Option Class) → Highest q s a best_a → Highest q s b best_b → ((k : Class) → Earned q s a k → Earned q s b k) → AtLeast best_b best_a
at_least q s a b None best_b ha hb up = tt
at_least q s a b (Some k) None ha hb up = hb k (up k ha.0)
at_least q s a b (Some k) (Some j) ha hb up = hb.1 k (up k ha.0)

module _ {Element : Type 0} (q : Terms Element) (s : Rules) (a b : Survey) (sound_a : Sound a) (sound_b : Sound b) (legs : Pairing leg_kind s.directions (leg_item q a) (leg_item q b)) (circuits : Pairing circuit_kind s.directions (circuit_item q a) (circuit_item q b)) where
  whole_pair : NoWorse whole_kind s.directions (the_whole q b) (the_whole q a)
  whole_pair =
      let firsts = map_standing (circuit_finding q a) a.circuits circuit_numbers in
      let seconds = map_standing (circuit_finding q b) b.circuits circuit_numbers in
      let within : (p : Survey) → Sound p → (n : ℕ) → is_some (circuit_item q p n) ≡ true → In n circuit_numbers = λ p sound n e. circuit_numbered n (sound.circuit_range n (sym (some_mapped (circuit_finding q p) (p.circuits n)) ∙ e)) in
      subst (λ fs. NoWorse whole_kind s.directions (whole_finding fs) (the_whole q a)) (sym seconds)
      (subst (λ fs. NoWorse whole_kind s.directions (whole_finding (standing (circuit_item q b) circuit_numbers)) (whole_finding fs)) (sym firsts)
      (whole_no_worse s.directions (circuit_item q a) (circuit_item q b) circuits (within a sound_a) (within b sound_b)))

  pub earned_too : (k : Class) → Earned q s a k → Earned q s b k
  earned_too k h =
      record {
        legs = pair_meets s.legs (leg_item q a) (leg_item q b) legs k h.legs;
        circuits = pair_meets s.circuits (circuit_item q a) (circuit_item q b) circuits k h.circuits;
        whole = λ rule l. s.whole.law rule (the_whole q b) (the_whole q a) whole_pair k (h.whole rule l);
      }

  pub no_lower : NoLower q s a b legs.back circuits.back
  no_lower =
      record {
        class = at_least q s a b _ _ (highest q s a sound_a) (highest q s b sound_b) earned_too;
        legs = pair_misses s.legs (leg_item q a) (leg_item q b) legs;
        circuits = pair_misses s.circuits (circuit_item q a) (circuit_item q b) circuits;
        whole =
            λ k rule h. (
              h.0,
              ⊎_elim (λ met. absurd (both_ways (s.whole.meets rule (the_whole q b) k) h.1 (s.whole.law rule (the_whole q b) (the_whole q a) whole_pair k met))) (λ e. e)
                  (cases_Bool (s.whole.meets rule (the_whole q a) k)),
            );
      }
