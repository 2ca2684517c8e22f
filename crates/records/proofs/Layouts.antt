-- One step along a layout. Assumes nothing.
use Rattle.std.proofs.Common.{◌≡◌, ℕ, suc, ◌+◌, ◌<◌, ◌≤◌, Bool, true, false, cond, eqb, List, [], ◌∷◌, length, get_or, drop, Some, None, Ok, Err, Option, Result, sym, refl, ap, ◌∙◌, subst, ap₂, add-one, arith}
use Rattle.std.proofs.lemmas.List.{drop_more, drop_all}
use Rattle.std.proofs.lemmas.Bool.{eq-eqb, ne_eqb, eqb-true, eqb-false, both_ways}
use Rattle.records.specs.declared.word.Slot.{Slot}
use Rattle.records.specs.declared.refusal.Reason.{Reason}
use Rattle.records.specs.declared.refusal.Refusal.{Refusal}
use Rattle.records.specs.declared.refusal.Reason.TheVariants.{Layout}
use Rattle.records.specs.Refusals.{refusal, unless}
use Rattle.records.specs.Layouts.{misplaced, Broken}
use Rattle.records.specs.Lowest.{Lowest}
use Rattle.records.proofs.Lowest.{From, passed, stopped, from_zero}
use Rattle.records.specs.Words.{kind, kind_number}

module _ (slots : List Slot) (ws : List ℕ) (i : ℕ) where
  absent : (d : Slot) → i < length slots → length ws ≤ i →
      misplaced i (drop i slots) (drop i ws) ≡ cond (get_or slots i d).required (Some i) (misplaced (suc i) (drop (i + 1) slots) (drop (i + 1) ws))
  absent d l h =
      ap₂ (misplaced i) (drop_more slots i d l) (drop_all i ws h)
      ∙ sym (ap (λ rest. cond (get_or slots i d).required (Some i) (misplaced (suc i) (drop (i + 1) slots) rest)) (drop_all (i + 1) ws (omega arith)))

  pub needed : (d : Slot) → i < length slots → length ws ≤ i → (get_or slots i d).required ≡ true → Some i ≡ misplaced i (drop i slots) (drop i ws)
  needed d l h e = sym (absent d l h ∙ ap (λ b. cond b (Some i) (misplaced (suc i) (drop (i + 1) slots) (drop (i + 1) ws))) e)

  pub spared : (d : Slot) → i < length slots → length ws ≤ i → (get_or slots i d).required ≡ false →
      misplaced (i + 1) (drop (i + 1) slots) (drop (i + 1) ws) ≡ misplaced i (drop i slots) (drop i ws)
  spared d l h e =
      ap (λ j. misplaced j (drop (i + 1) slots) (drop (i + 1) ws)) (add-one i)
      ∙ sym (absent d l h ∙ ap (λ b. cond b (Some i) (misplaced (suc i) (drop (i + 1) slots) (drop (i + 1) ws))) e)

  present : (d : Slot) (e : ℕ) → i < length slots → i < length ws →
      misplaced i (drop i slots) (drop i ws) ≡ cond (eqb (kind (get_or ws i e)) (kind_number (get_or slots i d).kind)) (misplaced (suc i) (drop (i + 1) slots) (drop (i + 1) ws)) (Some i)
  present d e l h = ap₂ (misplaced i) (drop_more slots i d l) (drop_more ws i e h)

  pub other_kind : (d : Slot) (e : ℕ) → i < length slots → i < length ws → (kind (get_or ws i e) ≡ kind_number (get_or slots i d).kind → ⊥) → Some i ≡ misplaced i (drop i slots) (drop i ws)
  other_kind d e l h n = sym (present d e l h ∙ ap (λ b. cond b (misplaced (suc i) (drop (i + 1) slots) (drop (i + 1) ws)) (Some i)) (ne_eqb _ _ n))

  pub same_kind : (d : Slot) (e : ℕ) → i < length slots → i < length ws → kind (get_or ws i e) ≡ kind_number (get_or slots i d).kind →
      misplaced (i + 1) (drop (i + 1) slots) (drop (i + 1) ws) ≡ misplaced i (drop i slots) (drop i ws)
  same_kind d e l h n =
      ap (λ j. misplaced j (drop (i + 1) slots) (drop (i + 1) ws)) (add-one i)
      ∙ sym (present d e l h ∙ ap (λ b. cond b (misplaced (suc i) (drop (i + 1) slots) (drop (i + 1) ws)) (Some i)) (eq-eqb _ _ n))

  pub surplus : length slots ≤ i → i < length ws → Some i ≡ misplaced i (drop i slots) (drop i ws)
  surplus l h = sym (ap₂ (misplaced i) (drop_all i slots l) (drop_more ws i 0 h))

  pub over : length slots ≤ i → length ws ≤ i → None ≡ misplaced i (drop i slots) (drop i ws)
  over l h = sym (ap₂ (misplaced i) (drop_all i slots l) (drop_all i ws h))

-- what was not refused
pub passes : (reason : Reason) (m : Option ℕ) (u : Unit {0}) → Ok u ≡ unless (refusal reason m) tt → m ≡ None
passes reason None u e = refl
passes reason (Some i) u e = cc

pub laid : (m : Option ℕ) (u : Unit {0}) → Ok u ≡ unless (refusal Layout m) tt → m ≡ None
laid = passes Layout

-- a word of the slot's kind, in front
pub step : (i : ℕ) (s : Slot) (slots : List Slot) (w : ℕ) (ws : List ℕ) → kind w ≡ kind_number s.kind → misplaced i (s ∷ slots) (w ∷ ws) ≡ misplaced (suc i) slots ws
step i s slots w ws e = ap (λ b. cond b (misplaced (suc i) slots ws) (Some i)) (eq-eqb _ _ e)

pub step_back : (i : ℕ) (s : Slot) (slots : List Slot) (w : ℕ) (ws : List ℕ) → misplaced i (s ∷ slots) (w ∷ ws) ≡ None → (kind w ≡ kind_number s.kind) × (misplaced (suc i) slots ws ≡ None)
step_back i s slots w ws e = go (eqb (kind w) (kind_number s.kind)) refl e
  where
    go : (b : Bool) → eqb (kind w) (kind_number s.kind) ≡ b → cond b (misplaced (suc i) slots ws) (Some i) ≡ None → (kind w ≡ kind_number s.kind) × (misplaced (suc i) slots ws ≡ None)
    go true p h = (eqb-true _ _ p, h)
    go false p h = let z : ◌≡◌ {A = ℕ} 0 1 = cc in absurd (omega arith)

-- the word that a required slot has
pub record Next (i : ℕ) (s : Slot) (slots : List Slot) (ws : List ℕ) : Type 0 where
  pub here : ℕ
  pub rest : List ℕ
  pub is : ws ≡ here ∷ rest
  pub kind_is : kind here ≡ kind_number s.kind
  pub laid_rest : misplaced (suc i) slots rest ≡ None

pub next : (i : ℕ) (s : Slot) (slots : List Slot) (ws : List ℕ) → s.required ≡ true → misplaced i (s ∷ slots) ws ≡ None → Next i s slots ws
next i s slots [] r e = let z : ◌≡◌ {A = ℕ} 0 1 = cc in absurd (omega arith)
next i s slots (w ∷ ws) r e = let k = step_back i s slots w ws e in record { here = w; rest = ws; is = refl; kind_is = k.0; laid_rest = k.1 }

-- words that are laid out right are no more than the layout has
pub no_more : (i : ℕ) (slots : List Slot) (ws : List ℕ) → misplaced i slots ws ≡ None → length ws ≤ length slots
no_more i [] [] e = omega arith
no_more i [] (w ∷ ws) e = let z : ◌≡◌ {A = ℕ} 0 1 = cc in absurd (omega arith)
no_more i (s ∷ slots) [] e = omega arith
no_more i (s ∷ slots) (w ∷ ws) e = let h = no_more (suc i) slots ws (step_back i s slots w ws e).1 in omega arith

-- the refusal of a reason, taken back to its place
pub refused_at : (reason : Reason) (m : Option ℕ) (e : Refusal) → ◌≡◌ {A = Result (Unit {0}) Refusal} (Err e) (unless (refusal reason m) tt) → (i : ℕ) × (m ≡ Some i) × (e ≡ record { reason = reason; place = i })
refused_at reason None e h = let z : ◌≡◌ {A = ℕ} 0 1 = cc in absurd (omega arith)
refused_at reason (Some i) e h = (i, refl, cc)

-- ---- the index is the least
lowest_from : (i : ℕ) (slots : List Slot) (ws : List ℕ) → Lowest (From i (Broken slots ws)) (misplaced i slots ws)
lowest_from i [] [] = λ n h. h.2
lowest_from i [] (w ∷ ws) = stopped i (Broken [] (w ∷ ws)) tt
lowest_from i (s ∷ slots) [] = go s.required refl (lowest_from (suc i) slots [])
  where
    go : (b : Bool) → s.required ≡ b → Lowest (From (suc i) (Broken slots [])) (misplaced (suc i) slots []) → Lowest (From i (Broken (s ∷ slots) [])) (cond b (Some i) (misplaced (suc i) slots []))
    go true e rest = stopped i (Broken (s ∷ slots) []) e
    go false e rest = passed i (Broken (s ∷ slots) []) _ (both_ways s.required e) rest
lowest_from i (s ∷ slots) (w ∷ ws) = go (eqb (kind w) (kind_number s.kind)) refl (lowest_from (suc i) slots ws)
  where
    go : (b : Bool) → eqb (kind w) (kind_number s.kind) ≡ b → Lowest (From (suc i) (Broken slots ws)) (misplaced (suc i) slots ws) →
        Lowest (From i (Broken (s ∷ slots) (w ∷ ws))) (cond b (misplaced (suc i) slots ws) (Some i))
    go true e rest = passed i (Broken (s ∷ slots) (w ∷ ws)) _ (λ h. h (eqb-true _ _ e)) rest
    go false e rest = stopped i (Broken (s ∷ slots) (w ∷ ws)) (eqb-false _ _ e)

pub lowest_misplaced : (slots : List Slot) (ws : List ℕ) (r : Option ℕ) → r ≡ misplaced 0 slots ws → Lowest (Broken slots ws) r
lowest_misplaced slots ws r e = subst (Lowest (Broken slots ws)) (sym e) (from_zero (Broken slots ws) _ (lowest_from 0 slots ws))
