-- What a strike answers. Assumes nothing.
use Rattle.std.proofs.Common.{◌≡◌, ℕ, true, false, not, [], ◌∷◌, is_some, Some, None, Option, refl, ap, ◌∙◌}
use Rattle.records.specs.declared.refusal.Reason.TheVariants.{Range, Absent, InUse}
use Rattle.records.specs.Ranges.{is_leg_number, is_circuit_number}
use Rattle.records.specs.Refusals.{first, refusal}
use Rattle.quantities.specs.Terms.{Terms}
use Rattle.standards.specs.Rules.{Rules}
use Rattle.plainbook.specs.Refusals.{refused_if, strike_leg_refusals, strike_circuit_refusals}
use Rattle.plainbook.specs.Surveys.{Survey, user}
use Rattle.survey.proofs.Outcomes.{first_after, first_at, refused_where, not_refused}

module _ {Element : Type 0} (q : Terms Element) (s : Rules) (p : Survey) (n : ℕ) where
  module _ (ranged : refused_if Range 0 (not (is_circuit_number n)) ≡ None) where
    pub circuit_absent : is_some (p.circuits n) ≡ false → first (strike_circuit_refusals q s p n) ≡ Some (record { reason = Absent; place = 0 })
    circuit_absent e =
        first_after (refused_if Range 0 (not (is_circuit_number n))) (refused_if Absent 0 (not (is_some (p.circuits n))) ∷ []) ranged
        ∙ first_at (refused_if Absent 0 (not (is_some (p.circuits n)))) [] _ (refused_where Absent 0 _ (ap not e))

    pub circuit_stands : is_some (p.circuits n) ≡ true → first (strike_circuit_refusals q s p n) ≡ None
    circuit_stands e =
        first_after (refused_if Range 0 (not (is_circuit_number n))) (refused_if Absent 0 (not (is_some (p.circuits n))) ∷ []) ranged
        ∙ first_after (refused_if Absent 0 (not (is_some (p.circuits n)))) [] (not_refused Absent 0 _ (ap not e))

  module _ (ranged : refused_if Range 0 (not (is_leg_number n)) ≡ None) where
    pub leg_absent : is_some (p.legs n) ≡ false → first (strike_leg_refusals q s p n) ≡ Some (record { reason = Absent; place = 0 })
    leg_absent e =
        first_after (refused_if Range 0 (not (is_leg_number n))) (refused_if Absent 0 (not (is_some (p.legs n))) ∷ (refusal InUse (user p n) ∷ [])) ranged
        ∙ first_at (refused_if Absent 0 (not (is_some (p.legs n)))) (refusal InUse (user p n) ∷ []) _ (refused_where Absent 0 _ (ap not e))

    pub leg_used : (o : Option ℕ) → is_some (p.legs n) ≡ true → user p n ≡ o → first (strike_leg_refusals q s p n) ≡ refusal InUse o
    leg_used o e u =
        first_after (refused_if Range 0 (not (is_leg_number n))) (refused_if Absent 0 (not (is_some (p.legs n))) ∷ (refusal InUse (user p n) ∷ [])) ranged
        ∙ first_after (refused_if Absent 0 (not (is_some (p.legs n)))) (refusal InUse (user p n) ∷ []) (not_refused Absent 0 _ (ap not e))
        ∙ ap (λ o. first (refusal InUse o ∷ [])) u ∙ lone o
      where
        lone : (o : Option ℕ) → first (refusal InUse o ∷ []) ≡ refusal InUse o
        lone None = refl
        lone (Some c) = refl
