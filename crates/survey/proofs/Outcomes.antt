-- The first refusal of a list, and what a call answers by it. Assumes nothing.
use Rattle.std.proofs.Common.{◌≡◌, ℕ, Bool, true, false, cond, List, [], ◌∷◌, ◌++◌, is_ok, Some, None, Ok, Err, Option, sym, refl, ap, ◌∙◌, arith}
use Rattle.records.specs.declared.refusal.Reason.{Reason}
use Rattle.records.specs.declared.refusal.Refusal.{Refusal}
use Rattle.records.specs.declared.refusal.Fault.TheVariants.{Refused, Memory}
use Rattle.records.specs.Refusals.{refusal, first, unless}
use Rattle.plainbook.specs.Refusals.{refused_if}
use Rattle.plainbook.specs.Steps.{Held, Answer, holding, unless_refused}
use Rattle.plainbook.specs.Surveys.{Survey}
use Rattle.survey.specs.Books.{Answers, AnswersAlways}

-- ---- the first refusal
pub first_after : (o : Option Refusal) (rest : List (Option Refusal)) → o ≡ None → first (o ∷ rest) ≡ first rest
first_after o rest e = ap (λ o. first (o ∷ rest)) e

pub first_at : (o : Option Refusal) (rest : List (Option Refusal)) (r : Refusal) → o ≡ Some r → first (o ∷ rest) ≡ Some r
first_at o rest r e = ap (λ o. first (o ∷ rest)) e

pub after_all : (xs ys : List (Option Refusal)) → first xs ≡ None → first (xs ++ ys) ≡ first ys
after_all [] ys e = refl
after_all (None ∷ xs) ys e = after_all xs ys e
after_all (Some r ∷ xs) ys e = let z : ◌≡◌ {A = ℕ} 0 1 = cc in absurd (omega arith)

pub within : (xs ys : List (Option Refusal)) (r : Refusal) → first xs ≡ Some r → first (xs ++ ys) ≡ Some r
within [] ys r e = let z : ◌≡◌ {A = ℕ} 0 1 = cc in absurd (omega arith)
within (None ∷ xs) ys r e = within xs ys r e
within (Some s ∷ xs) ys r e = e

pub refused_where : (reason : Reason) (place : ℕ) (b : Bool) → b ≡ true → refused_if reason place b ≡ Some (record { reason = reason; place = place })
refused_where reason place b e = ap (λ b. refusal reason (cond b (Some place) None)) e

pub not_refused : (reason : Reason) (place : ℕ) (b : Bool) → b ≡ false → refused_if reason place b ≡ None
not_refused reason place b e = ap (λ b. refusal reason (cond b (Some place) None)) e

-- ---- results that are refused, and results that are not
pub was_refused : {B : Type 0} (o : Option Refusal) (answer : B) (r : Refusal) → Err r ≡ unless o answer → o ≡ Some r
was_refused None answer r e = let z : ◌≡◌ {A = ℕ} 0 1 = cc in absurd (omega arith)
was_refused (Some s) answer r e = cc

pub was_given : {B : Type 0} (o : Option Refusal) (answer a : B) → Ok a ≡ unless o answer → (o ≡ None) × (a ≡ answer)
was_given None answer a e = (refl, cc)
was_given (Some s) answer a e = let z : ◌≡◌ {A = ℕ} 0 1 = cc in absurd (omega arith)

-- ---- what a call answers
module _ {Q S A : Type 0} (view : A → Answer) (h : Held Q S) (words : List ℕ) (answer : Answer) (p : Survey) (after : List ℕ) where
  pub refuses_always : (o : Option Refusal) (r : Refusal) → o ≡ Some r → AnswersAlways view (unless_refused h words o answer p after) h (Err r)
  refuses_always o r e = (sym (ap (λ o. (unless_refused h words o answer p after).answer) e), sym (ap (λ o. (unless_refused h words o answer p after).held) e))

  pub answers_always : (o : Option Refusal) (a : A) (now : Held Q S) → o ≡ None → view a ≡ answer → now ≡ holding h p → AnswersAlways view (unless_refused h words o answer p after) now (Ok a)
  answers_always o a now e is same =
      (ap Ok is ∙ sym (ap (λ o. (unless_refused h words o answer p after).answer) e), same ∙ sym (ap (λ o. (unless_refused h words o answer p after).held) e))

  pub refuses : (o : Option Refusal) (r : Refusal) → o ≡ Some r → Answers view (unless_refused h words o answer p after) h h (Err (Refused r))
  refuses o r e = (ap (λ o. (unless_refused h words o answer p after).answer) e, sym (ap (λ o. (unless_refused h words o answer p after).held) e))

  pub answers : (o : Option Refusal) (a : A) (now : Held Q S) → o ≡ None → view a ≡ answer → now ≡ holding h p → Answers view (unless_refused h words o answer p after) h now (Ok a)
  answers o a now e is same =
      (ap (λ o. (unless_refused h words o answer p after).answer) e ∙ ap Ok (sym is), same ∙ sym (ap (λ o. (unless_refused h words o answer p after).held) e))

  pub lacks : (o : Option Refusal) (now : Held Q S) → o ≡ None → now ≡ h → Answers view (unless_refused h words o answer p after) h now (Err Memory)
  lacks o now e same = (ap (λ o. is_ok (unless_refused h words o answer p after).answer) e, same)
