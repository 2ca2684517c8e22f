-- A survey otherwise written has the same items, under the new numbers. Assumes nothing.
use Rattle.std.proofs.Common.{◌≡◌, ℕ, true, List, [], ◌∷◌, ◌++◌, map, is_some, Some, None, Option, sym, refl, ap, ◌∙◌, subst, ⊎_elim}
use Rattle.std.specs.Option.{option_map}
use Rattle.std.proofs.lemmas.List.{reverse-append}
use Rattle.std.proofs.lemmas.Bool.{cases_eq}
use Rattle.records.specs.Circuits.{CircuitRecord, UseRecord}
use Rattle.records.specs.Legs.{LegRecord}
use Rattle.quantities.specs.Terms.{Terms}
use Rattle.standards.specs.Observed.{leg_finding}
use Rattle.plainbook.specs.Accepted.{AllStand, Linked}
use Rattle.plainbook.specs.Findings.{circuit_finding, runs_finding}
use Rattle.plainbook.specs.Promise.{leg_item, circuit_item}
use Rattle.plainbook.specs.Rewritings.{renumbered_leg, renumbered_circuit, renamed_circuit, OneForOne, LegsRenumbered, CircuitsRenumbered, CircuitRewritten, with_legs, turned, turned_use, Rewriting, legs_renumbered, circuits_renumbered, begun_elsewhere, turned_round, and_then, new_leg, new_circuit}
use Rattle.plainbook.specs.Surveys.{Survey, runs, closed}
use Rattle.plainbook.proofs.Bare.{stand_renamed, follows_renamed, found_renamed}
use Rattle.plainbook.proofs.Chains.{SameLegs, runs_same, stand_same, chained}
use Rattle.plainbook.proofs.Invariant.{Sound}
use Rattle.plainbook.proofs.NoLower.{some_is}
use Rattle.plainbook.proofs.Standing.{some_same, some_mapped}
use Rattle.plainbook.proofs.Turns.{runs_append, runs_turned, rotated, linked_backward, found_rotated, found_backward}

-- the circuits' legs stand and chain
pub Fit : Survey → Type 0
Fit p = (n : ℕ) (c : CircuitRecord) → p.circuits n ≡ Some c → AllStand p.legs c.legs × Linked (runs p.legs c.legs)

pub fit : (p : Survey) → Sound p → Fit p
unfolding Fit
fit p sound n c e = chained p.legs [] None 2 c.legs (sound.chains n c e)

-- what stands at the new numbers is found the same, one for one
pub record Same {X Y : Type 0} (to : ℕ → ℕ) (f g : ℕ → Option X) (item_f item_g : ℕ → Option Y) : Type 0 where
  pub apart : (m n : ℕ) → is_some (f m) ≡ true → is_some (f n) ≡ true → to m ≡ to n → m ≡ n
  pub stands : (n : ℕ) → is_some (f n) ≡ true → is_some (g (to n)) ≡ true
  pub found : (n : ℕ) → is_some (f n) ≡ true → item_g (to n) ≡ item_f n
  pub back : (m : ℕ) → is_some (g m) ≡ true → (n : ℕ) × (is_some (f n) ≡ true) × (to n ≡ m)

same_then : {X Y : Type 0} (to to' : ℕ → ℕ) (f g h : ℕ → Option X) (i j k : ℕ → Option Y) → Same to f g i j → Same to' g h j k → Same (λ n. to' (to n)) f h i k
same_then to to' f g h i j k s t =
    record {
      apart = λ m n p q e. s.apart m n p q (t.apart (to m) (to n) (s.stands m p) (s.stands n q) e);
      stands = λ n p. t.stands (to n) (s.stands n p);
      found = λ n p. t.found (to n) (s.stands n p) ∙ s.found n p;
      back = λ m p. let y = t.back m p in let x = s.back y.0 y.1 in (x.0, x.1, ap to' x.2 ∙ y.2);
    }

-- nothing moves
same_here : {X Y : Type 0} (f g : ℕ → Option X) (i j : ℕ → Option Y) → ((n : ℕ) → is_some (g n) ≡ is_some (f n)) → ((n : ℕ) → is_some (f n) ≡ true → j n ≡ i n) → Same (λ n. n) f g i j
same_here f g i j some found =
    record { apart = λ m n p q e. e; stands = λ n p. some n ∙ p; found = found; back = λ m p. (m, sym (some m) ∙ p, refl) }

-- one for one, with what is found unchanged by the change of number
same_one : {X Y : Type 0} (to : ℕ → ℕ) (change : ℕ → X → X) (f g : ℕ → Option X) (i j : X → Y) → OneForOne to change f g → ((n : ℕ) (x : X) → f n ≡ Some x → j (change (to n) x) ≡ i x) → Same to f g (λ n. option_map i (f n)) (λ n. option_map j (g n))
same_one to change f g i j one same =
    record {
      apart = one.apart;
      stands = λ n p. let x = some_is (f n) p in ap is_some (one.there n x.0 x.1);
      found = λ n p. let x = some_is (f n) p in ap (option_map j) (one.there n x.0 x.1) ∙ ap Some (same n x.0 x.1) ∙ sym (ap (option_map i) x.1);
      back = one.back;
    }

same_legs : (f g : ℕ → Option LegRecord) → ((n : ℕ) → f n ≡ g n) → (us : List UseRecord) → SameLegs f g us
same_legs f g e [] = tt
same_legs f g e (u ∷ us) = (e u.leg, same_legs f g e us)

-- fit legs, in another survey with the same legs
fit_legs : (f g : ℕ → Option LegRecord) → ((n : ℕ) → g n ≡ f n) → (us : List UseRecord) → AllStand f us × Linked (runs f us) → AllStand g us × Linked (runs g us)
fit_legs f g e us h =
    let same = same_legs f g (λ n. sym (e n)) us in (stand_same f g us same h.0, subst Linked (runs_same f g us same) h.1)

stand_append : (f : ℕ → Option LegRecord) (xs ys : List UseRecord) → AllStand f xs → AllStand f ys → AllStand f (xs ++ ys)
stand_append f [] ys h k = k
stand_append f (x ∷ xs) ys h k = (h.0, stand_append f xs ys h.1 k)

stand_split : (f : ℕ → Option LegRecord) (xs ys : List UseRecord) → AllStand f (xs ++ ys) → AllStand f xs × AllStand f ys
stand_split f [] ys h = (tt, h)
stand_split f (x ∷ xs) ys h = let p = stand_split f xs ys h.1 in ((h.0, p.0), p.1)

stand_swap : (f : ℕ → Option LegRecord) (xs ys : List UseRecord) → AllStand f (xs ++ ys) → AllStand f (ys ++ xs)
stand_swap f xs ys h = let p = stand_split f xs ys h in stand_append f ys xs p.1 p.0

stand_turned : (f : ℕ → Option LegRecord) (us : List UseRecord) → AllStand f us → AllStand f (turned us)
stand_turned f [] h = tt
stand_turned f (u ∷ us) h = subst (AllStand f) (sym (reverse-append (turned_use u ∷ []) (map turned_use us))) (stand_append f (turned us) (turned_use u ∷ []) (stand_turned f us h.1) (h.0, tt))

module _ {Element : Type 0} (q : Terms Element) where
  pub record Matched (a b : Survey) (to_leg to_circuit : ℕ → ℕ) : Type 0 where
    pub legs : Same to_leg a.legs b.legs (leg_item q a) (leg_item q b)
    pub circuits : Same to_circuit a.circuits b.circuits (circuit_item q a) (circuit_item q b)
    pub fits : Fit b

  legs_here : (a b : Survey) → ((n : ℕ) → b.legs n ≡ a.legs n) → Same (λ n. n) a.legs b.legs (leg_item q a) (leg_item q b)
  legs_here a b e = same_here a.legs b.legs (leg_item q a) (leg_item q b) (λ n. ap is_some (e n)) (λ n _. ap (option_map (leg_finding q)) (e n))

  found_same : (a b : Survey) → ((n : ℕ) → b.legs n ≡ a.legs n) → (us : List UseRecord) (due : ℕ) → runs_finding q (runs b.legs us) due ≡ runs_finding q (runs a.legs us) due
  found_same a b e us due = ap (λ rs. runs_finding q rs due) (runs_same b.legs a.legs us (same_legs b.legs a.legs e us))

  -- ---- legs renumbered
  module _ (a b : Survey) (to : ℕ → ℕ) (e : LegsRenumbered to a b) (ok : Fit a) where
    renamed_found : (n : ℕ) → is_some (a.circuits n) ≡ true → circuit_item q b n ≡ circuit_item q a n
    unfolding Fit
    renamed_found n p =
        let c = some_is (a.circuits n) p in
        ap (option_map (circuit_finding q b)) (e.circuits n ∙ ap (option_map (renamed_circuit to)) c.1)
        ∙ ap Some (found_renamed a.legs b.legs to e.legs.there q c.0.legs c.0.due (ok n c.0 c.1).0)
        ∙ sym (ap (option_map (circuit_finding q a)) c.1)

    renamed_fit : Fit b
    unfolding Fit
    renamed_fit n d h =
        let some : is_some (a.circuits n) ≡ true = sym (some_mapped (renamed_circuit to) (a.circuits n)) ∙ ap is_some (sym (e.circuits n) ∙ h) in
        let c = some_is (a.circuits n) some in
        let is : renamed_circuit to c.0 ≡ d = some_same (sym (e.circuits n ∙ ap (option_map (renamed_circuit to)) c.1) ∙ h) in
        let k = ok n c.0 c.1 in
        subst (λ d. AllStand b.legs d.legs × Linked (runs b.legs d.legs)) is
        (stand_renamed a.legs b.legs to e.legs.there c.0.legs k.0, follows_renamed a.legs b.legs to e.legs.there c.0.legs k.0 k.1)

    legs_matched : Matched a b to (λ n. n)
    legs_matched =
        record {
          legs = same_one to renumbered_leg a.legs b.legs (leg_finding q) (leg_finding q) e.legs (λ n x h. refl);
          circuits = same_here a.circuits b.circuits (circuit_item q a) (circuit_item q b) (λ n. ap is_some (e.circuits n) ∙ some_mapped (renamed_circuit to) (a.circuits n)) renamed_found;
          fits = renamed_fit;
        }

  -- ---- circuits renumbered
  module _ (a b : Survey) (to : ℕ → ℕ) (e : CircuitsRenumbered to a b) (ok : Fit a) where
    moved_fit : Fit b
    unfolding Fit
    moved_fit m d h =
        let n = e.circuits.back m (ap is_some h) in
        let c = some_is (a.circuits n.0) n.1 in
        let is : renumbered_circuit (to n.0) c.0 ≡ d = some_same (sym (e.circuits.there n.0 c.0 c.1) ∙ ap b.circuits n.2 ∙ h) in
        subst (λ d. AllStand b.legs d.legs × Linked (runs b.legs d.legs)) is (fit_legs a.legs b.legs e.legs c.0.legs (ok n.0 c.0 c.1))

    circuits_matched : Matched a b (λ n. n) to
    circuits_matched =
        record {
          legs = legs_here a b e.legs;
          circuits = same_one to renumbered_circuit a.circuits b.circuits (circuit_finding q a) (circuit_finding q b) e.circuits (λ n c h. found_same a b e.legs c.legs c.due);
          fits = moved_fit;
        }

  -- ---- one circuit written another way
  module _ (a b : Survey) (n : ℕ) (old new : CircuitRecord) (e : CircuitRewritten n old new a b) (ok : Fit a) (found : runs_finding q (runs a.legs new.legs) new.due ≡ runs_finding q (runs a.legs old.legs) old.due) (good : AllStand a.legs new.legs × Linked (runs a.legs new.legs)) where
    some_kept : (m : ℕ) → is_some (b.circuits m) ≡ is_some (a.circuits m)
    some_kept m =
        ⊎_elim (λ same. ap is_some (ap b.circuits same ∙ e.after) ∙ sym (ap is_some (ap a.circuits same ∙ e.before))) (λ other. ap is_some (e.others m other)) (cases_eq m n)

    rewritten_found : (m : ℕ) → is_some (a.circuits m) ≡ true → circuit_item q b m ≡ circuit_item q a m
    rewritten_found m p =
        ⊎_elim
        (λ same.
        ap (option_map (circuit_finding q b)) (ap b.circuits same ∙ e.after) ∙ ap Some (found_same a b e.legs new.legs new.due ∙ found) ∙ sym (ap (option_map (circuit_finding q a)) (ap a.circuits same ∙ e.before)))
        (λ other.
        let c = some_is (a.circuits m) p in
        ap (option_map (circuit_finding q b)) (e.others m other ∙ c.1) ∙ ap Some (found_same a b e.legs c.0.legs c.0.due) ∙ sym (ap (option_map (circuit_finding q a)) c.1))
        (cases_eq m n)

    rewritten_fit : Fit b
    unfolding Fit
    rewritten_fit m d h =
        ⊎_elim
        (λ same.
        subst (λ d. AllStand b.legs d.legs × Linked (runs b.legs d.legs)) (some_same (sym (ap b.circuits same ∙ e.after) ∙ h)) (fit_legs a.legs b.legs e.legs new.legs good))
        (λ other. fit_legs a.legs b.legs e.legs d.legs (ok m d (sym (e.others m other) ∙ h))) (cases_eq m n)

    one_matched : Matched a b (λ n. n) (λ n. n)
    one_matched = record { legs = legs_here a b e.legs; circuits = same_here a.circuits b.circuits (circuit_item q a) (circuit_item q b) some_kept rewritten_found; fits = rewritten_fit }

  -- ---- any mixture
  pub matched : {a b : Survey} (r : Rewriting q a b) → Fit a → Matched a b (new_leg r) (new_circuit r)
  unfolding Fit
  matched {a} {b} (legs_renumbered to e) ok = legs_matched a b to e ok
  matched {a} {b} (circuits_renumbered to e) ok = circuits_matched a b to e ok
  matched {a} {b} (begun_elsewhere n c xs ys shut e) ok =
      let here = ok n (with_legs c c.due (xs ++ ys)) e.before in
      let parts = runs_append a.legs xs ys in
      let swapped = runs_append a.legs ys xs in
      let shut_runs = sym (ap closed parts) ∙ shut in
      let turn = rotated (runs a.legs xs) (runs a.legs ys) (subst Linked parts here.1) shut_runs in
      one_matched a b n (with_legs c c.due (xs ++ ys)) (with_legs c c.due (ys ++ xs)) e ok
      (ap (λ rs. runs_finding q rs c.due) swapped ∙ found_rotated q (runs a.legs xs) (runs a.legs ys) c.due shut_runs turn.1 ∙ sym (ap (λ rs. runs_finding q rs c.due) parts))
      (stand_swap a.legs xs ys here.0, subst Linked (sym swapped) turn.0)
  matched {a} {b} (turned_round n c due opposite e) ok =
      let here = ok n c e.before in
      let back = runs_turned a.legs c.legs in
      one_matched a b n c (with_legs c due (turned c.legs)) e ok (ap (λ rs. runs_finding q rs due) back ∙ found_backward q (runs a.legs c.legs) c.due due opposite)
      (stand_turned a.legs c.legs here.0, subst Linked (sym back) (linked_backward (runs a.legs c.legs) here.1))
  matched (and_then r s) ok =
      let first = matched r ok in
      let second = matched s first.fits in
      record {
        legs = same_then (new_leg r) (new_leg s) _ _ _ _ _ _ first.legs second.legs;
        circuits = same_then (new_circuit r) (new_circuit s) _ _ _ _ _ _ first.circuits second.circuits;
        fits = second.fits;
      }
