-- Legs and their words. Assumes nothing.
use Rattle.std.proofs.Common.{◌≡◌, ℕ, ◌-◌, ◌<◌, ◌≤◌, Bool, true, false, cond, not, ◌&&◌, eqb, List, [], ◌∷◌, length, get_or, take, drop, Some, None, Ok, Option, Result, sym, ap, ◌∙◌}
use Rattle.std.proofs.lemmas.List.{drop_more, drop_all, take_rest}
use Rattle.std.proofs.lemmas.Bool.{and_from}
use Rattle.records.specs.declared.refusal.Reason.TheVariants.{Layout, Range}
use Rattle.records.specs.declared.refusal.Refusal.{Refusal}
use Rattle.records.specs.Layouts.{misplaced, leg_layout}
use Rattle.records.specs.Legs.{LegRecord, leg_read, leg_ranged, leg_decoded, back_read}
use Rattle.records.specs.Ranges.{is_leg_number, is_node}
use Rattle.records.specs.Refusals.{refusal, first, unless}
use Rattle.records.specs.Words.{payload}

-- words laid out right give a leg that is in range
pub accepted : (ws : List ℕ) (l : LegRecord) → misplaced 0 leg_layout ws ≡ None → leg_read ws ≡ l → leg_ranged l ≡ true → leg_decoded ws ≡ Ok l
accepted ws l laid read ranged =
    ap (λ m. tried m (leg_ranged (leg_read ws)) (leg_read ws)) laid ∙ ap (λ k. tried None (leg_ranged k) k) read ∙ ap (λ b. tried None b l) ranged
  where
    tried : Option ℕ → Bool → LegRecord → Result LegRecord Refusal
    tried m b k = unless (first (refusal Layout m ∷ refusal Range (cond b None (Some 0)) ∷ [])) k

pub in_range : (n s e : ℕ) → is_leg_number n ≡ true → is_node s ≡ true → is_node e ≡ true → eqb s e ≡ false → (is_leg_number n && (is_node s && (is_node e && not (eqb s e)))) ≡ true
in_range n s e hn hs he d = and_from _ _ hn (and_from _ _ hs (and_from _ _ he (ap not d)))

pub same_leg : {k l : LegRecord} → k.number ≡ l.number → k.start ≡ l.start → k.end ≡ l.end → k.value ≡ l.value →
    k.length.metres ≡ l.length.metres → k.readings.a ≡ l.readings.a → k.readings.b ≡ l.readings.b → k.readings.c ≡ l.readings.c → k.back ≡ l.back → k ≡ l
same_leg n s e v m a b c w = λ i. record { number = n i; start = s i; end = e i; value = v i; length = record { metres = m i }; readings = record { a = a i; b = b i; c = c i }; back = w i }

pub no_back : (ws : List ℕ) → length ws ≤ 4 → back_read (drop 4 ws) ≡ None
no_back ws h = ap back_read (drop_all 4 ws h)

pub one_back : (ws : List ℕ) (x : ℕ) → 4 < length ws → x ≡ payload (get_or (take (length ws - 4) (drop 4 ws)) 0 0) → back_read (drop 4 ws) ≡ Some x
one_back ws x h e = ap back_read (drop_more ws 4 0 h) ∙ ap Some (sym (e ∙ ap (λ l. payload (get_or l 0 0)) (take_rest ws 4) ∙ ap (λ l. payload (get_or l 0 0)) (drop_more ws 4 0 h)))
