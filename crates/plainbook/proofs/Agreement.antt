-- The promise over all ways. Assumes nothing.
use Rattle.std.proofs.Common.{◌≡◌, ℕ, Bool, true, false, is_some, Some, Option, sym, refl, ap, ◌∙◌, subst}
use mathlib.Core.Path.{fun_ext}
use Rattle.std.specs.Option.{option_map}
use Rattle.std.proofs.lemmas.Bool.{false≢true}
use Rattle.quantities.specs.Terms.{Terms}
use Rattle.standards.specs.declared.class.Class.{Class}
use Rattle.standards.specs.declared.finding.Directions.{Directions}
use Rattle.standards.specs.Classes.{members, least}
use Rattle.standards.specs.NoWorse.{Kind, NoWorse, leg_kind, circuit_kind}
use Rattle.standards.specs.Rules.{Rules, Table}
use Rattle.standards.proofs.Orders.{preorder}
use Rattle.standards.specs.Observed.{leg_finding}
use Rattle.plainbook.specs.Accepted.{Accepted}
use Rattle.plainbook.specs.Findings.{circuit_finding}
use Rattle.plainbook.specs.Grades.{class_bits, met}
use Rattle.plainbook.specs.Promise.{Misses, SameMisses, Pairing, Agree, Way, Ends, Promise, leg_item, circuit_item}
use Rattle.plainbook.specs.Rewritings.{Rewriting, new_leg, new_circuit}
use Rattle.plainbook.specs.Surveys.{Survey}
use Rattle.plainbook.proofs.Accepted.{accepted_kept}
use Rattle.plainbook.proofs.Invariant.{Sound, sound_kept}
use Rattle.plainbook.proofs.Items.{earned, gained, highest}
use Rattle.plainbook.proofs.Listing.{listed}
use Rattle.plainbook.proofs.NoLower.{no_lower, earned_too}
use Rattle.plainbook.proofs.Rewritten.{Same, Matched, matched, fit}
use Rattle.plainbook.proofs.Standing.{some_same, some_mapped}
use Rattle.plainbook.proofs.Ways.{way_keeps}

-- ---- items that are found the same pair off both ways
chosen : {P : ℕ → Type 0} (b : Bool) → (b ≡ true → (n : ℕ) × P n) → ℕ
chosen true h = (h refl).0
chosen false h = 0

chosen_is : {P : ℕ → Type 0} (b : Bool) (h : b ≡ true → (n : ℕ) × P n) → b ≡ true → P (chosen b h)
unfolding chosen
chosen_is true h e = (h refl).1
chosen_is false h e = absurd (false≢true e)

module _ {X Y : Type 0} (kind : Kind Y) (better : Directions) (to : ℕ → ℕ) (f g : ℕ → Option X) (i j : X → Y) (same : Same to f g (λ n. option_map i (f n)) (λ n. option_map j (g n))) where
  source : (m : ℕ) → is_some (g m) ≡ true → (n : ℕ) × ((is_some (f n) ≡ true) × (to n ≡ m))
  source m e = let x = same.back m e in (x.0, (x.1, x.2))

  from : ℕ → ℕ
  from m = chosen {P = λ n. (is_some (f n) ≡ true) × (to n ≡ m)} (is_some (g m)) (source m)

  from_is : (m : ℕ) → is_some (g m) ≡ true → (is_some (f (from m)) ≡ true) × (to (from m) ≡ m)
  unfolding from
  from_is m e = chosen_is {P = λ n. (is_some (f n) ≡ true) × (to n ≡ m)} (is_some (g m)) (source m) e

  there_and_back : (n : ℕ) → is_some (f n) ≡ true → from (to n) ≡ n
  there_and_back n e = let p = from_is (to n) (same.stands n e) in same.apart (from (to n)) n p.0 e p.1

  alike : (x y : Y) (o : Option Y) → o ≡ Some x → o ≡ Some y → NoWorse kind better y x
  alike x y o p q = let e : x ≡ y = some_same (sym p ∙ q) in subst (λ z. NoWorse kind better z x) e ((preorder kind better).same x)

  pub forward : Pairing kind better (λ n. option_map i (f n)) (λ n. option_map j (g n))
  forward =
      record {
        there = to;
        back = from;
        stands_there = λ n e. some_mapped j (g (to n)) ∙ same.stands n (sym (some_mapped i (f n)) ∙ e);
        stands_back = λ n e. some_mapped i (f (from n)) ∙ (from_is n (sym (some_mapped j (g n)) ∙ e)).0;
        back_there = λ n e. there_and_back n (sym (some_mapped i (f n)) ∙ e);
        there_back = λ n e. (from_is n (sym (some_mapped j (g n)) ∙ e)).1;
        no_worse =
            λ n x y p e.
            let here = from_is n (sym (some_mapped j (g n)) ∙ ap is_some e) in
            alike x y (option_map j (g n)) (ap (λ m. option_map j (g m)) (sym here.1) ∙ same.found (from n) here.0 ∙ p) e;
      }

  pub backward : Pairing kind better (λ n. option_map j (g n)) (λ n. option_map i (f n))
  backward =
      record {
        there = from;
        back = to;
        stands_there = λ n e. some_mapped i (f (from n)) ∙ (from_is n (sym (some_mapped j (g n)) ∙ e)).0;
        stands_back = λ n e. some_mapped j (g (to n)) ∙ same.stands n (sym (some_mapped i (f n)) ∙ e);
        back_there = λ n e. (from_is n (sym (some_mapped j (g n)) ∙ e)).1;
        there_back = λ n e. there_and_back n (sym (some_mapped i (f n)) ∙ e);
        no_worse = λ n x y p e. alike x y (option_map j (g (to n))) p (same.found n (sym (some_mapped i (f n)) ∙ ap is_some e) ∙ e);
      }

-- ---- two surveys, one otherwise written
same_misses : {Y : Type 0} {kind : Kind Y} {better : Directions} (table : Table kind better) (x y : Option Y) → y ≡ x → SameMisses table x y
same_misses table x y e k rule = (λ h. subst (Misses table k rule) (sym e) h, λ h. subst (Misses table k rule) e h)

both_true : (x y : Bool) → (x ≡ true → y ≡ true) → (y ≡ true → x ≡ true) → x ≡ y
both_true true y to from = sym (to refl)
both_true false true to from = from refl
both_true false false to from = refl

module _ {Element : Type 0} (q : Terms Element) (s : Rules) (a b : Survey) (sound_a : Sound a) (sound_b : Sound b) (r : Rewriting q a b) where
  both : Matched q a b (new_leg r) (new_circuit r)
  both = matched q r (fit a sound_a)

  legs_on : Pairing leg_kind s.directions (leg_item q a) (leg_item q b)
  legs_on = forward leg_kind s.directions (new_leg r) a.legs b.legs (leg_finding q) (leg_finding q) both.legs

  circuits_on : Pairing circuit_kind s.directions (circuit_item q a) (circuit_item q b)
  circuits_on = forward circuit_kind s.directions (new_circuit r) a.circuits b.circuits (circuit_finding q a) (circuit_finding q b) both.circuits

  legs_off : Pairing leg_kind s.directions (leg_item q b) (leg_item q a)
  legs_off = backward leg_kind s.directions (new_leg r) a.legs b.legs (leg_finding q) (leg_finding q) both.legs

  circuits_off : Pairing circuit_kind s.directions (circuit_item q b) (circuit_item q a)
  circuits_off = backward circuit_kind s.directions (new_circuit r) a.circuits b.circuits (circuit_finding q a) (circuit_finding q b) both.circuits

  met_same : (k : Class) → met q s a k ≡ met q s b k
  met_same k =
      both_true (met q s a k) (met q s b k) (λ e. gained q s b k (earned_too q s a b sound_a sound_b legs_on circuits_on k (earned q s a sound_a k e)))
      (λ e. gained q s a k (earned_too q s b a sound_b sound_a legs_off circuits_off k (earned q s b sound_b k e)))

  pub agree : Agree q s a b (new_leg r) (new_circuit r)
  agree =
      let on = no_lower q s a b sound_a sound_b legs_on circuits_on in
      let off = no_lower q s b a sound_b sound_a legs_off circuits_off in
      record {
        grades = ap (λ m. record { set = class_bits m; count = members m; best = least m }) (fun_ext met_same);
        legs = λ n e. same_misses s.legs (leg_item q a n) (leg_item q b (new_leg r n)) (both.legs.found n e);
        each_leg = both.legs.back;
        circuits = λ n e. same_misses s.circuits (circuit_item q a n) (circuit_item q b (new_circuit r n)) (both.circuits.found n e);
        each_circuit = both.circuits.back;
        whole = λ k rule. (off.whole k rule, on.whole k rule);
      }

-- ---- all ways
module _ {Q S Element : Type 0} (terms : Q → Terms Element) (rules : S → Rules) where
  sound_end : (w : Way Q S) (q : Q) (s : S) (p : Survey) → Ends terms rules w q s p → Sound p
  sound_end w q s p e = way_keeps (λ _ _ x. Sound x) terms rules sound_kept w q s p e.held

  pub promise : Promise terms rules
  promise =
      record {
        accepted = λ w q s p e. way_keeps Accepted terms rules accepted_kept w q s p e;
        no_lower = λ v w q s a b ea eb legs circuits. no_lower (terms q) (rules s) a b (sound_end v q s a ea) (sound_end w q s b eb) legs circuits;
        highest = λ w q s p e. highest (terms q) (rules s) p (sound_end w q s p e);
        listed = λ w q s p e k. listed (terms q) (rules s) p (sound_end w q s p e) k;
        otherwise_written = λ v w q s a b ea eb r. agree (terms q) (rules s) a b (sound_end v q s a ea) (sound_end w q s b eb) r;
      }
