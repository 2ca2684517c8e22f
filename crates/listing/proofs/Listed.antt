-- What misses answers, and the words that it leaves. Assumes nothing.
use Rattle.std.proofs.Common.{◌≡◌, ℕ, ◌+◌, true, false, not, ltb, List, [], ◌∷◌, ◌++◌, length, is_some, Some, None, Ok, Err, Option, sym, refl, ap, ◌∙◌, ap₂, arith}
use Rattle.std.proofs.lemmas.List.{append_assoc, length-append}
use Rattle.records.specs.declared.refusal.Reason.TheVariants.{NoClass, TooFew}
use Rattle.records.specs.declared.refusal.Refusal.{Refusal}
use Rattle.records.specs.Refusals.{first}
use Rattle.quantities.specs.Terms.{Terms}
use Rattle.standards.specs.declared.class.Class.{Class}
use Rattle.standards.specs.Classes.{class_at}
use Rattle.standards.specs.Rules.{Rules}
use Rattle.plainbook.specs.Misses.{survey_misses}
use Rattle.plainbook.specs.Refusals.{refused_if, grade_refusals, misses_refusals, room_refusal}
use Rattle.plainbook.specs.Steps.{Held, step, listing, listed, misses_at, written, unless_refused}
use Rattle.plainbook.specs.Surveys.{Survey}
use Rattle.survey.specs.Books.{AnswersAlways}
use Rattle.listing.specs.Answered.{is_listed}
use Rattle.listing.specs.Writing.{put}
use Rattle.listing.proofs.Writing.{put_put}
use Rattle.survey.proofs.Outcomes.{first_at, after_all, within, refused_where, not_refused, refuses_always, answers_always}

module _ {Element : Type 0} (q : Terms Element) (s : Rules) (p : Survey) (class words : ℕ) where
  -- the refusals, the number read as a class or not
  abbrev refusals_at : Option Class → List (Option Refusal)
  refusals_at o = refused_if NoClass 0 (not (is_some o)) ∷ (grade_refusals q s p ++ (room_refusal q s p o words ∷ []))

  pub no_class : class_at class ≡ None → first (misses_refusals q s p class words) ≡ Some (record { reason = NoClass; place = 0 })
  no_class e = ap (λ o. first (refusals_at o)) e

  pub not_graded : (k : Class) (r : Refusal) → class_at class ≡ Some k → first (grade_refusals q s p) ≡ Some r → first (misses_refusals q s p class words) ≡ Some r
  not_graded k r e h = ap (λ o. first (refusals_at o)) e ∙ within (grade_refusals q s p) (room_refusal q s p (Some k) words ∷ []) r h

  module _ (k : Class) (e : class_at class ≡ Some k) (h : first (grade_refusals q s p) ≡ None) (n : ℕ) (count : n ≡ length (survey_misses q s p k)) where
    last_asked : first (misses_refusals q s p class words) ≡ first (refused_if TooFew n (ltb words n) ∷ [])
    last_asked =
        ap (λ o. first (refusals_at o)) e
        ∙ after_all (grade_refusals q s p) (room_refusal q s p (Some k) words ∷ []) h
        ∙ sym (ap (λ n. first (refused_if TooFew n (ltb words n) ∷ [])) count)

    pub too_few : ltb words n ≡ true → first (misses_refusals q s p class words) ≡ Some (record { reason = TooFew; place = n })
    too_few l = last_asked ∙ first_at _ [] _ (refused_where TooFew n (ltb words n) l)

    pub enough : ltb words n ≡ false → first (misses_refusals q s p class words) ≡ None
    enough l = last_asked ∙ ap (λ o. first (o ∷ [])) (not_refused TooFew n (ltb words n) l)

module _ {Q S Element : Type 0} (terms : Q → Terms Element) (rules : S → Rules) (h : Held Q S) (class : ℕ) (ws : List ℕ) where
  pub refused : (r : Refusal) → first (misses_refusals (terms h.quantity) (rules h.standard) h.survey class (length ws)) ≡ Some r →
      AnswersAlways is_listed (step terms rules (listing class ws) h) h (Err r) × (ws ≡ (step terms rules (listing class ws) h).words)
  refused r e =
      let all = misses_at terms rules h (class_at class) in
      let o = first (misses_refusals (terms h.quantity) (rules h.standard) h.survey class (length ws)) in
      (refuses_always is_listed h ws (listed (length all)) h.survey (written all ws) o r e, sym (ap (λ o. (unless_refused h ws o (listed (length all)) h.survey (written all ws)).words) e))

  pub given : (k : Class) (n : ℕ) (after : List ℕ) → class_at class ≡ Some k → first (misses_refusals (terms h.quantity) (rules h.standard) h.survey class (length ws)) ≡ None →
      n ≡ length (survey_misses (terms h.quantity) (rules h.standard) h.survey k) → after ≡ written (survey_misses (terms h.quantity) (rules h.standard) h.survey k) ws →
      AnswersAlways is_listed (step terms rules (listing class ws) h) h (Ok n) × (after ≡ (step terms rules (listing class ws) h).words)
  given k n after known e count is =
      let all = misses_at terms rules h (class_at class) in
      let o = first (misses_refusals (terms h.quantity) (rules h.standard) h.survey class (length ws)) in
      let same : survey_misses (terms h.quantity) (rules h.standard) h.survey k ≡ all = sym (ap (misses_at terms rules h) known) in (
        answers_always is_listed h ws (listed (length all)) h.survey (written all ws) o n h e (ap listed (count ∙ ap length same)) refl,
        is ∙ ap (λ l. written l ws) same ∙ sym (ap (λ o. (unless_refused h ws o (listed (length all)) h.survey (written all ws)).words) e),
      )

-- ---- the words of the legs, of the circuits and of the whole, put one after another
module _ (a b w ws ws₁ ws₂ ws₃ : List ℕ) (n m r : ℕ) (first_end : n ≡ 0 + length a) (first_put : ws₁ ≡ put 0 a ws) (second_end : m ≡ n + length b) (second_put : ws₂ ≡ put n b ws₁) where
  pub all_put : ws₃ ≡ put m w ws₂ → ws₃ ≡ put 0 (a ++ (b ++ w)) ws
  all_put third_put =
      let both : ws₂ ≡ put 0 (a ++ b) ws = second_put ∙ ap₂ (λ n v. put n b v) first_end first_put ∙ put_put 0 a b ws in
      let next : m ≡ 0 + length (a ++ b) = omega (arith, first_end, second_end, length-append a b) in
      third_put ∙ ap₂ (λ n v. put n w v) next both ∙ put_put 0 (a ++ b) w ws ∙ ap (λ l. put 0 l ws) (append_assoc a b w)

  pub all_end : r ≡ m + length w → r ≡ length (a ++ (b ++ w))
  all_end e = omega (arith, e, first_end, second_end, length-append a (b ++ w), length-append b w)
