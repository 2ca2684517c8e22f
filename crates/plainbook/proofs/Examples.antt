-- The example books are what they are said to be: rewritings and pairings follow each entry, and the ends compute. Assumes nothing.
use Rattle.std.proofs.Common.{◌≡◌, ℕ, ◌+◌, ◌<◌, ◌≤◌, Bool, true, false, cond, eqb, List, [], ◌∷◌, is_some, Some, None, Option, sym, refl, ap, ◌∙◌, subst, ⊎_elim, arith, lit<, lit≤}
use Rattle.std.specs.Map.{update}
use Rattle.std.specs.Option.{option_map}
use Rattle.std.proofs.lemmas.Map.{update_here, update_apart}
use Rattle.std.proofs.lemmas.Bool.{cases_eq}
use Rattle.records.specs.Circuits.{CircuitRecord, UseRecord}
use Rattle.records.specs.Legs.{LegRecord}
use Rattle.quantities.specs.Meanings.{heights_terms, angles_terms, same_height, same_angle}
use Rattle.standards.specs.declared.class.Class.{Class}
use Rattle.standards.specs.declared.class.Class.TheVariants.{First, Second}
use Rattle.standards.specs.declared.finding.CircuitFinding.{CircuitFinding}
use Rattle.standards.specs.declared.finding.Directions.{Directions}
use Rattle.standards.specs.declared.finding.LegFinding.{LegFinding}
use Rattle.standards.specs.Level.{level_rules}
use Rattle.standards.specs.NoWorse.{Kind, NoWorse, leg_kind, circuit_kind}
use Rattle.standards.specs.Triangulation.{triangulation_rules}
use Rattle.standards.specs.Observed.{leg_finding}
use Rattle.standards.proofs.Orders.{preorder}
use Rattle.plainbook.specs.Examples.{up, down, along, against, circuit, LevelWay, first_book, renumbered_book, elsewhere_book, turned_book, mixed_book, closer_book, better_book, corner, triangle, turned_triangle, triangle_book, RewrittenUnder, OtherwiseWritten, LevelEnds, NoWorseBook, Examples}
use Rattle.plainbook.specs.Findings.{circuit_finding}
use Rattle.plainbook.specs.Grades.{grade}
use Rattle.plainbook.specs.Promise.{Pairing, leg_item, circuit_item}
use Rattle.plainbook.specs.Rewritings.{renumbered_leg, renumbered_circuit, renamed_circuit, OneForOne, LegsRenumbered, CircuitsRenumbered, CircuitRewritten, Rewriting, legs_renumbered, circuits_renumbered, begun_elsewhere, turned_round, and_then, turned_use}
use Rattle.plainbook.specs.Steps.{empty, with_leg, with_circuit}
use Rattle.plainbook.specs.Surveys.{Survey, leg_numbers, circuit_numbers}
use Rattle.plainbook.proofs.Standing.{some_same}

-- the survey of two legs and a circuit
abbrev two_legs : (l m : LegRecord) → Survey
two_legs l m = with_leg (with_leg empty l.number (Some l)) m.number (Some m)

abbrev survey : (l m : LegRecord) → CircuitRecord → Survey
survey l m c = with_circuit (two_legs l m) c.number (Some c)

-- ---- numbers that change one for one, entry by entry
module _ {A : Type 0} (to : ℕ → ℕ) (own : (m n : ℕ) → to m ≡ to n → m ≡ n) (change : ℕ → A → A) where
  none_yet : OneForOne to change (λ _. None) (λ _. None)
  none_yet = record { apart = λ m n p q e. own m n e; there = λ n x e. let z : ◌≡◌ {A = ℕ} 0 1 = cc in absurd (omega arith); back = λ m p. let z : ◌≡◌ {A = ℕ} 0 1 = cc in absurd (omega arith) }

  entered : (f g : ℕ → Option A) → OneForOne to change f g → (k : ℕ) (x : A) → OneForOne to change (update eqb f k (Some x)) (update eqb g (to k) (Some (change (to k) x)))
  entered f g one k x =
      record {
        apart = λ m n p q e. own m n e;
        there = λ n y e.
            ⊎_elim
            (λ same.
            let is : x ≡ y = some_same (sym (ap (update eqb f k (Some x)) same ∙ update_here f k (Some x)) ∙ e) in
            ap (λ m. update eqb g (to k) (Some (change (to k) x)) (to m)) same ∙ update_here g (to k) (Some (change (to k) x)) ∙ ap (λ m. Some (change (to m) x)) (sym same) ∙ ap (λ z. Some (change (to n) z)) is)
            (λ other. update_apart g (to k) (Some (change (to k) x)) (to n) (λ s. other (own n k s)) ∙ one.there n y (sym (update_apart f k (Some x) n other) ∙ e))
            (cases_eq n k);
        back = λ m p.
            ⊎_elim
            (λ same. (k, ap is_some (update_here f k (Some x)), sym same))
            (λ other.
            let n = one.back m (ap is_some (sym (update_apart g (to k) (Some (change (to k) x)) m other)) ∙ p) in
            (n.0, ap is_some (update_apart f k (Some x) n.0 (λ s. other (sym n.2 ∙ ap to s))) ∙ n.1, n.2))
            (cases_eq m (to k));
      }

module _ (to : ℕ → ℕ) (own : (m n : ℕ) → to m ≡ to n → m ≡ n) (l m : LegRecord) (c : CircuitRecord) where
  legs_moved : LegsRenumbered to (survey l m c) (survey (renumbered_leg (to l.number) l) (renumbered_leg (to m.number) m) (renamed_circuit to c))
  legs_moved =
      record {
        legs = entered to own renumbered_leg _ _ (entered to own renumbered_leg _ _ (none_yet to own renumbered_leg) l.number l) m.number m;
        circuits = λ n. renamed (eqb c.number n);
      }
    where
      renamed : (b : Bool) → cond b (Some (renamed_circuit to c)) None ≡ option_map (renamed_circuit to) (cond b (Some c) None)
      renamed true = refl
      renamed false = refl

  circuits_moved : CircuitsRenumbered to (survey l m c) (survey l m (renumbered_circuit (to c.number) c))
  circuits_moved = record { legs = λ n. refl; circuits = entered to own renumbered_circuit _ _ (none_yet to own renumbered_circuit) c.number c }

-- one circuit written another way
rewritten : (p : Survey) (n : ℕ) (old new : CircuitRecord) → CircuitRewritten n old new (with_circuit p n (Some old)) (with_circuit p n (Some new))
rewritten p n old new =
    record {
      before = update_here p.circuits n (Some old);
      after = update_here p.circuits n (Some new);
      others = λ m d. update_apart p.circuits n (Some new) m d ∙ sym (update_apart p.circuits n (Some old) m d);
      legs = λ m. refl;
    }

-- ---- items that pair off under the same numbers
module _ {Finding : Type 0} (kind : Kind Finding) (better : Directions) where
  abbrev NoWorseItem : (x y : Option Finding) → Type 0
  NoWorseItem None None = Unit {0}
  NoWorseItem None (Some y) = ⊥
  NoWorseItem (Some x) None = ⊥
  NoWorseItem (Some x) (Some y) = NoWorse kind better y x

  stands_too : (x y : Option Finding) → NoWorseItem x y → is_some x ≡ is_some y
  stands_too None None h = refl
  stands_too None (Some y) h = absurd h
  stands_too (Some x) None h = absurd h
  stands_too (Some x) (Some y) h = refl

  paired : (f g : ℕ → Option Finding) → ((n : ℕ) → NoWorseItem (f n) (g n)) → Pairing kind better f g
  paired f g h =
      record {
        there = λ n. n;
        back = λ n. n;
        stands_there = λ n p. sym (stands_too (f n) (g n) (h n)) ∙ p;
        stands_back = λ n p. stands_too (f n) (g n) (h n) ∙ p;
        back_there = λ n p. refl;
        there_back = λ n p. refl;
        no_worse = λ n x y e s. subst (λ o. NoWorseItem o (Some y)) e (subst (NoWorseItem (f n)) s (h n));
      }

  -- one entry more
  item_entered : {A : Type 0} (i j : A → Finding) (f g : ℕ → Option A) → ((n : ℕ) → NoWorseItem (option_map i (f n)) (option_map j (g n))) → (k : ℕ) (x y : A) → NoWorse kind better (j y) (i x)
      → (n : ℕ) → NoWorseItem (option_map i (update eqb f k (Some x) n)) (option_map j (update eqb g k (Some y) n))
  item_entered i j f g h k x y here n = go (eqb k n)
    where
      go : (b : Bool) → NoWorseItem (option_map i (cond b (Some x) (f n))) (option_map j (cond b (Some y) (g n)))
      go true = here
      go false = h n

-- ---- the surveys in which the books end
abbrev plain : CircuitRecord → Survey
plain c = survey (up 1 350) (down 2) c

abbrev moved : CircuitRecord → Survey
moved c = survey (up 11 350) (down 12) c

-- a circuit of two legs
abbrev named : (number : ℕ) (x y : UseRecord) → CircuitRecord
named number x y = circuit number (x ∷ y ∷ [])

by_own : (k m n : ℕ) → m + k ≡ n + k → m ≡ n
by_own k m n e = omega arith

-- legs move by ten, circuits by four
renumbering : (c : CircuitRecord) → Rewriting heights_terms (plain c) (moved (renumbered_circuit (c.number + 4) (renamed_circuit (λ n. n + 10) c)))
renumbering c =
    and_then (legs_renumbered (λ n. n + 10) (legs_moved (λ n. n + 10) (by_own 10) (up 1 350) (down 2) c))
    (circuits_renumbered (λ n. n + 4) (circuits_moved (λ n. n + 4) (by_own 4) (up 11 350) (down 12) (renamed_circuit (λ n. n + 10) c)))

abbrev round : CircuitRecord
round = named 1 (along 1) (along 2)

beginning : Rewriting heights_terms (plain round) (plain (named 1 (along 2) (along 1)))
beginning =
    begun_elsewhere 1 round (along 1 ∷ []) (along 2 ∷ []) refl
    (rewritten (two_legs (up 1 350) (down 2)) 1 round (named 1 (along 2) (along 1)))

-- zero is its own opposite
zero_turned : heights_terms.due 0 ≡ heights_terms.opposite (heights_terms.due 0)
zero_turned = same_height (heights_terms.due 0) (heights_terms.opposite (heights_terms.due 0)) refl

turning : (x y : UseRecord) → Rewriting heights_terms (plain (named 1 x y)) (plain (named 1 (turned_use y) (turned_use x)))
turning x y =
    turned_round 1 (named 1 x y) 0 zero_turned (rewritten (two_legs (up 1 350) (down 2)) 1 (named 1 x y) (named 1 (turned_use y) (turned_use x)))

-- the leg that circuit 1 names first, 0 where there is no such circuit
abbrev first_named : List UseRecord → ℕ
first_named [] = 0
first_named (u ∷ us) = u.leg

abbrev first_leg : Option CircuitRecord → ℕ
first_leg None = 0
first_leg (Some c) = first_named c.legs

abbrev told : Survey → ℕ
told p = first_leg (p.circuits 1)

from_first : (w : LevelWay) (p : Survey) → LevelEnds w p → Rewriting heights_terms (plain round) p → (told p ≡ 1 → ⊥) → OtherwiseWritten first_book w
unfolding leg_numbers circuit_numbers
from_first w p ends rewriting d =
    record {
      before = plain round;
      after = p;
      ends_before = record { held = refl; graded = refl };
      ends_after = ends;
      rewriting = rewriting;
      different = λ e. d (ap told (sym e));
    }

-- ---- the triangle, turned round
abbrev three_angles : Survey
three_angles =
    with_leg (with_leg (with_leg empty 1 (Some (corner 1 1 2 21600000))) 2 (Some (corner 2 2 3 21600050))) 3 (Some (corner 3 3 1 21600100))

due_turned : angles_terms.due 64799900 ≡ angles_terms.opposite (angles_terms.due 64800100)
due_turned = same_angle (angles_terms.due 64799900) (angles_terms.opposite (angles_terms.due 64800100)) refl

triangle_turned : RewrittenUnder angles_terms triangulation_rules (triangle_book triangle) (triangle_book turned_triangle)
unfolding leg_numbers circuit_numbers
triangle_turned =
    record {
      before = with_circuit three_angles 1 (Some triangle);
      after = with_circuit three_angles 1 (Some turned_triangle);
      ends_before = record { held = refl; graded = refl };
      ends_after = record { held = refl; graded = refl };
      rewriting = turned_round 1 triangle 64799900 due_turned (rewritten three_angles 1 triangle turned_triangle);
      different = λ e. let d = ap told e in omega (arith, d);
    }

-- ---- leg 1 with another misclosure
abbrev with_misclosure : ℕ → Survey
with_misclosure z = survey (up 1 z) (down 2) round

abbrev shown : LegRecord → LegFinding
shown = leg_finding heights_terms

abbrev leg_shown : ℕ → LegFinding
leg_shown z = shown (up 1 z)

abbrev circuit_shown : ℕ → CircuitFinding
circuit_shown z = circuit_finding heights_terms (with_misclosure z) round

-- nothing but the misclosure and the closure has changed
module _ (z : ℕ) (smaller : (leg_shown z).misclosure < (leg_shown 350).misclosure) (closer : (circuit_shown z).closure ≤ (circuit_shown 350).closure) (summed : (circuit_shown z).misclosure ≤ (circuit_shown 350).misclosure) where
  legs_paired : Pairing leg_kind level_rules.directions (leg_item heights_terms (with_misclosure 350)) (leg_item heights_terms (with_misclosure z))
  legs_paired =
      paired leg_kind level_rules.directions _ _
      (item_entered leg_kind level_rules.directions shown shown _ _
      (item_entered leg_kind level_rules.directions shown shown (λ _. None) (λ _. None) (λ _. tt) 1 (up 1 350) (up 1 z)
      (record { sizes = (omega arith, tt); a = lit≤ tt; b = lit≤ tt; c = lit≤ tt; others = refl }))
      2 (down 2) (down 2) ((preorder leg_kind level_rules.directions).same (shown (down 2))))

  circuits_paired : Pairing circuit_kind level_rules.directions (circuit_item heights_terms (with_misclosure 350)) (circuit_item heights_terms (with_misclosure z))
  circuits_paired =
      paired circuit_kind level_rules.directions _ _
      (item_entered circuit_kind level_rules.directions (circuit_finding heights_terms (with_misclosure 350)) (circuit_finding heights_terms (with_misclosure z)) (λ _. None) (λ _. None) (λ _. tt) 1 round round
      (record { sizes = (closer, (summed, tt)); a = lit≤ tt; b = lit≤ tt; c = lit≤ tt; others = refl }))

  no_worse_than_first : (w : LevelWay) (new : Class) → LevelEnds w (with_misclosure z) → (grade heights_terms level_rules (with_misclosure z)).best ≡ Some new → NoWorseBook first_book w Second new
  unfolding leg_numbers circuit_numbers
  no_worse_than_first w new ends best =
      record {
        before = with_misclosure 350;
        after = with_misclosure z;
        ends_before = record { held = refl; graded = refl };
        ends_after = ends;
        legs = legs_paired;
        circuits = circuits_paired;
        smaller = record { larger = leg_shown 350; smaller = leg_shown z; before = refl; after = refl; less = smaller };
        best_before = refl;
        best_after = best;
      }

-- ---- all of them
pub examples : Examples
unfolding leg_numbers circuit_numbers
examples =
    record {
      renumbered = from_first renumbered_book (moved (named 5 (along 11) (along 12))) (record { held = refl; graded = refl }) (renumbering round) (λ e. omega arith);
      elsewhere = from_first elsewhere_book (plain (named 1 (along 2) (along 1))) (record { held = refl; graded = refl }) beginning (λ e. omega arith);
      turned = from_first turned_book (plain (named 1 (against 2) (against 1))) (record { held = refl; graded = refl }) (turning (along 1) (along 2)) (λ e. omega arith);
      mixed =
          from_first mixed_book (moved (named 5 (against 11) (against 12))) (record { held = refl; graded = refl })
          (and_then beginning (and_then (turning (along 2) (along 1)) (renumbering (named 1 (against 1) (against 2))))) (λ e. omega arith);
      triangle_turned = triangle_turned;
      closer = no_worse_than_first 301 (lit< tt) (lit≤ tt) (lit≤ tt) closer_book Second (record { held = refl; graded = refl }) refl;
      better = no_worse_than_first 300 (lit< tt) (lit≤ tt) (lit≤ tt) better_book First (record { held = refl; graded = refl }) refl;
      higher = lit< tt;
    }
