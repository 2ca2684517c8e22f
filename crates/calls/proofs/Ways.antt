-- Calls carried out one after another. Assumes nothing.
use Rattle.std.proofs.Common.{◌≡◌, ℕ, suc, ◌+◌, List, [], ◌∷◌, ◌++◌, map, length, take, Some, None, Ok, Err, Option, Result, sym, refl, ap, ◌∙◌, ap₂, arith}
use Rattle.std.proofs.lemmas.List.{length-append, length-map, map-append, append_assoc, take_at}
use Rattle.std.specs.declared.alloc.AllocError.{AllocError}
use Rattle.records.specs.declared.refusal.Refusal.{Refusal}
use Rattle.records.specs.declared.refusal.Fault.{Fault}
use Rattle.records.specs.declared.refusal.Fault.TheVariants.{Refused, Memory}
use Rattle.records.specs.Refusals.{seen}
use Rattle.std.specs.Result.{MatchResult, IsOkAnd}
use Rattle.quantities.specs.Terms.{Terms}
use Rattle.standards.specs.Rules.{Rules}
use Rattle.plainbook.specs.Steps as plain
use Rattle.plainbook.specs.Steps.{Held, Outcome, outcomes, run, step, unless_refused}
use Rattle.plainbook.specs.Surveys.{Survey}
use Rattle.survey.specs.Books.{Answers}
use Rattle.calls.specs.declared.call.Answer.{Answer}
use Rattle.calls.specs.Carrying.{Seen, plain_answer, reply_seen, replied, fault_seen, outcome_seen, plain_call, Carried, CarriedOut}
use Rattle.calls.specs.declared.call.Call.{Call}
use Rattle.calls.specs.declared.call.Reply.{Reply}

pub seen_as : {a b : Result plain.Answer Refusal} {v w : List ℕ} → a ≡ b → v ≡ w → ◌≡◌ {A = Seen} (record { answer = a; words = v }) (record { answer = b; words = w })
seen_as e f = λ i. record { answer = e i; words = f i }

-- a call that writes no words leaves them
pub words_kept : {Q S : Type 0} (h : Held Q S) (words : List ℕ) (r : Option Refusal) (answer : plain.Answer) (p : Survey) → (unless_refused h words r answer p words).words ≡ words
words_kept h words None answer p = refl
words_kept h words (Some r) answer p = refl

-- a call that changes nothing leaves what is held
pub held_kept : {Q S : Type 0} (h : Held Q S) (words : List ℕ) (r : Option Refusal) (answer : plain.Answer) (after : List ℕ) → (unless_refused h words r answer h.survey after).held ≡ h
held_kept h words None answer after = refl
held_kept h words (Some r) answer after = refl

-- ---- an answer put among those of all calls
module _ {A : Type 0} (view : A → plain.Answer) (P : A → Answer → Type 0) (same : (x : A) (y : Answer) → P x y → plain_answer y ≡ view x) where
  pub seen_mapped : (r : Result A Refusal) (m : Result Answer Refusal) → MatchResult r (λ x. IsOkAnd m (P x)) (λ e. m ≡ Err e) → seen plain_answer m ≡ seen view r
  seen_mapped (Ok x) (Ok y) h = ap Ok (same x y h)
  seen_mapped (Ok x) (Err e) h = absurd h
  seen_mapped (Err e) m h = ap (seen plain_answer) h

  pub fault_mapped : (words : List ℕ) (r : Result A Fault) (m : Result Answer Fault) → MatchResult r (λ x. IsOkAnd m (P x)) (λ e. m ≡ Err e) → fault_seen plain_answer words m ≡ fault_seen view words r
  fault_mapped words (Ok x) (Ok y) h = ap (λ a. Ok (record { answer = Ok a; words = words })) (same x y h)
  fault_mapped words (Ok x) (Err e) h = absurd h
  fault_mapped words (Err e) m h = ap (fault_seen plain_answer words) h ∙ refused_alike e
    where
      refused_alike : (e : Fault) → ◌≡◌ {A = Result Seen AllocError} (fault_seen plain_answer words (Err e)) (fault_seen view words (Err e))
      refused_alike (Refused r) = refl
      refused_alike Memory = refl

ok_is : {a b : Seen} → ◌≡◌ {A = Result Seen AllocError} (Ok a) (Ok b) → a ≡ b
ok_is e = cc

-- the reply of a call that allocates is the plain book's
pub carried : {Q S A : Type 0} (view : A → plain.Answer) (out : Outcome Q S) (before after : Held Q S) (words : List ℕ) (result : Result A Fault) (r : Result Reply AllocError) → Answers view out before after result → out.words ≡ words → replied r ≡ fault_seen view words result → Carried out before after r
carried view out before after words (Ok a) (Ok reply) h same is = (ok_is is ∙ seen_as (sym h.0) (sym same), h.1)
carried view out before after words (Ok a) (Err e) h same is = let z : ◌≡◌ {A = ℕ} 0 1 = cc in absurd (omega arith)
carried view out before after words (Err (Refused r)) (Ok reply) h same is = (ok_is is ∙ seen_as (sym h.0) (sym same), h.1)
carried view out before after words (Err (Refused r)) (Err e) h same is = let z : ◌≡◌ {A = ℕ} 0 1 = cc in absurd (omega arith)
carried view out before after words (Err Memory) (Ok reply) h same is = let z : ◌≡◌ {A = ℕ} 0 1 = cc in absurd (omega arith)
carried view out before after words (Err Memory) (Err e) h same is = h

module _ {Q S Element : Type 0} (terms : Q → Terms Element) (rules : S → Rules) where
  -- what has been done, what is held now, and what is left to do
  pub record SoFar (calls : List (Call Q S)) (before now_held : Held Q S) (replies : List Reply) (left : List (Call Q S)) : Type 0 where
    pub past : List (Call Q S)
    pub all : calls ≡ past ++ left
    pub count : length replies ≡ length past
    pub replied : map reply_seen replies ≡ map outcome_seen (outcomes terms rules before (map plain_call past))
    pub held : now_held ≡ run terms rules before (map plain_call past)

  outcomes_append : (h : Held Q S) (xs ys : List _) → outcomes terms rules h (xs ++ ys) ≡ outcomes terms rules h xs ++ outcomes terms rules (run terms rules h xs) ys
  outcomes_append h [] ys = refl
  outcomes_append h (x ∷ xs) ys = ap (λ o. step terms rules x h ∷ o) (outcomes_append (step terms rules x h).held xs ys)

  run_append : (h : Held Q S) (xs ys : List _) → run terms rules h (xs ++ ys) ≡ run terms rules (run terms rules h xs) ys
  run_append h [] ys = refl
  run_append h (x ∷ xs) ys = run_append (step terms rules x h).held xs ys

  pub at_start : (calls : List (Call Q S)) (h : Held Q S) → SoFar calls h h [] calls
  at_start calls h = record { past = []; all = refl; count = refl; replied = refl; held = refl }

  pub one_more : (calls : List (Call Q S)) (before now_held after : Held Q S) (replies replies' : List Reply) (call : Call Q S) (left : List (Call Q S)) (reply : Reply) →
      SoFar calls before now_held replies (call ∷ left) → reply_seen reply ≡ outcome_seen (step terms rules (plain_call call) now_held) → after ≡ (step terms rules (plain_call call) now_held).held →
      replies' ≡ replies ++ (reply ∷ []) → SoFar calls before after replies' left
  one_more calls before now_held after replies replies' call left reply so shown stands pushed =
      let past = so.past in
      let new = past ++ (call ∷ []) in
      let calls_new : map plain_call new ≡ map plain_call past ++ (plain_call call ∷ []) = map-append plain_call past (call ∷ []) in
      record {
        past = new;
        all = so.all ∙ sym (append_assoc past (call ∷ []) left);
        count = ap length pushed ∙ length-append replies (reply ∷ []) ∙ ap (λ n. n + 1) so.count ∙ sym (length-append past (call ∷ []));
        replied =
            ap (map reply_seen) pushed
            ∙ map-append reply_seen replies (reply ∷ [])
            ∙ ap₂ (λ xs x. xs ++ (x ∷ [])) so.replied (shown ∙ ap (λ h. outcome_seen (step terms rules (plain_call call) h)) so.held)
            ∙ sym (map-append outcome_seen (outcomes terms rules before (map plain_call past)) (step terms rules (plain_call call) (run terms rules before (map plain_call past)) ∷ []))
            ∙ ap (map outcome_seen) (sym (ap (outcomes terms rules before) calls_new ∙ outcomes_append before (map plain_call past) (plain_call call ∷ [])));
        held =
            stands
            ∙ ap (λ h. (step terms rules (plain_call call) h).held) so.held
            ∙ sym (ap (run terms rules before) calls_new ∙ run_append before (map plain_call past) (plain_call call ∷ []));
      }

  length_outcomes : (h : Held Q S) (xs : List _) → length (outcomes terms rules h xs) ≡ length xs
  length_outcomes h [] = refl
  length_outcomes h (x ∷ xs) = ap suc (length_outcomes (step terms rules x h).held xs)

  take_front : {X : Type 0} (n : ℕ) (xs ys : List X) → n ≡ length xs → take n (xs ++ ys) ≡ xs
  take_front n xs ys e = take_at xs ys n (sym e)

  pub stopped : (calls : List (Call Q S)) (before after : Held Q S) (replies : List Reply) (left : List (Call Q S)) → SoFar calls before after replies left → CarriedOut terms rules calls before after replies
  stopped calls before after replies left so =
      let past = so.past in
      let front : map plain_call calls ≡ map plain_call past ++ map plain_call left = ap (map plain_call) so.all ∙ map-append plain_call past left in
      let n : length replies ≡ length (map plain_call past) = so.count ∙ sym (length-map past plain_call) in
      let shown : map outcome_seen (outcomes terms rules before (map plain_call calls)) ≡ map outcome_seen (outcomes terms rules before (map plain_call past)) ++ map outcome_seen (outcomes terms rules (run terms rules before (map plain_call past)) (map plain_call left)) =
      ap (λ cs. map outcome_seen (outcomes terms rules before cs)) front ∙ ap (map outcome_seen) (outcomes_append before (map plain_call past) (map plain_call left)) ∙ map-append outcome_seen (outcomes terms rules before (map plain_call past)) _ in
      let m : length replies ≡ length (map outcome_seen (outcomes terms rules before (map plain_call past))) = n ∙ sym (length-map _ outcome_seen ∙ length_outcomes before (map plain_call past)) in
      record {
        count = omega (arith, so.count, ap length so.all, length-append past left);
        seen_all = so.replied ∙ sym (ap (take (length replies)) shown ∙ take_front (length replies) _ _ m);
        held = so.held ∙ ap (run terms rules before) (sym (ap (take (length replies)) front ∙ take_front (length replies) (map plain_call past) (map plain_call left) n));
      }
