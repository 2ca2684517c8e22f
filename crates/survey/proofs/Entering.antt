-- What entering a leg answers, and that the book stays sound. Assumes nothing.
use Rattle.std.proofs.Common.{◌≡◌, ℕ, true, false, T, eqb, List, [], ◌∷◌, ◌++◌, is_some, Some, None, Ok, Err, Option, Result, OnOk, OnErr, refl, ap, ◌∙◌}
use Rattle.std.specs.declared.alloc.AllocFailed.{AllocFailed}
use Rattle.std.specs.BTreeMap.{BTreeMap}
use Rattle.std.specs.BTreeMap.{IsUnchanged, Updates}
use Rattle.std.specs.Map.{update}
use Rattle.std.specs.Ordering.{nat_cmp}
use Rattle.records.specs.declared.leg.Leg.{Leg}
use Rattle.records.specs.declared.refusal.Reason.TheVariants.{Taken}
use Rattle.records.specs.declared.refusal.Refusal.{Refusal}
use Rattle.records.specs.Legs.{LegRecord, leg_record, leg_read, leg_refusals}
use Rattle.records.specs.Refusals.{first}
use Rattle.quantities.specs.Acceptance.{measure_refusals}
use Rattle.quantities.specs.Terms.{Terms}
use Rattle.standards.specs.Acceptance.{observation_refusals}
use Rattle.standards.specs.Rules.{Rules}
use Rattle.plainbook.specs.Refusals.{refused_if, enter_refusals}
use Rattle.plainbook.specs.Steps.{with_leg}
use Rattle.plainbook.specs.Surveys.{Survey}
use Rattle.plainbook.proofs.Invariant.{enter_sound}
use Rattle.survey.specs.declared.book.Book.{Book}
use Rattle.survey.specs.Books.{surveyed}
use Rattle.survey.specs.Numbered.{every}
use Rattle.survey.specs.Standing.{standing_legs, chains_over}
use Rattle.survey.proofs.Outcomes.{first_after, first_at, after_all, within, refused_where, not_refused}
use Rattle.survey.proofs.Soundness.{sound, chained, read_sets, read_unchanged}

module _ {Element : Type 0} (q : Terms Element) (s : Rules) (p : Survey) (ws : List ℕ) where
  abbrev taken : Option Refusal
  taken = refused_if Taken 0 (is_some (p.legs (leg_read ws).number))

  abbrev observed : List (Option Refusal)
  observed = observation_refusals s (leg_read ws) ++ (taken ∷ [])

  abbrev measured : List (Option Refusal)
  measured = measure_refusals q (leg_read ws) ++ observed

  pub words_refused : (r : Refusal) → first (leg_refusals ws) ≡ Some r → first (enter_refusals q s p ws) ≡ Some r
  words_refused r e = within (leg_refusals ws) measured r e

  module _ (read : first (leg_refusals ws) ≡ None) where
    pub measure_refused : (r : Refusal) → first (measure_refusals q (leg_read ws)) ≡ Some r → first (enter_refusals q s p ws) ≡ Some r
    measure_refused r e = after_all (leg_refusals ws) measured read ∙ within (measure_refusals q (leg_read ws)) observed r e

    module _ (accepted : first (measure_refusals q (leg_read ws)) ≡ None) where
      pub observation_refused : (r : Refusal) → first (observation_refusals s (leg_read ws)) ≡ Some r → first (enter_refusals q s p ws) ≡ Some r
      observation_refused r e =
          after_all (leg_refusals ws) measured read ∙ after_all (measure_refusals q (leg_read ws)) observed accepted ∙ within (observation_refusals s (leg_read ws)) (taken ∷ []) r e

      module _ (seen : first (observation_refusals s (leg_read ws)) ≡ None) where
        to_taken : first (enter_refusals q s p ws) ≡ first (taken ∷ [])
        to_taken =
            after_all (leg_refusals ws) measured read ∙ after_all (measure_refusals q (leg_read ws)) observed accepted ∙ after_all (observation_refusals s (leg_read ws)) (taken ∷ []) seen

        pub number_taken : is_some (p.legs (leg_read ws).number) ≡ true → first (enter_refusals q s p ws) ≡ Some (record { reason = Taken; place = 0 })
        number_taken e = to_taken ∙ first_at taken [] _ (refused_where Taken 0 _ e)

        pub leg_entered : is_some (p.legs (leg_read ws).number) ≡ false → first (enter_refusals q s p ws) ≡ None
        leg_entered e = to_taken ∙ first_after taken [] (not_refused Taken 0 _ e)

module _ {Q S Element : Type 0} (q : Terms Element) (s : Rules) (b : Book Q S) (ws : List ℕ) (l : Leg) (after : BTreeMap ℕ Leg) (is : leg_record l ≡ leg_read ws) where
  -- the legs that stand after an `insert`
  pub entered_legs : Updates nat_cmp b.legs after l.number.value (Some l) → standing_legs after ≡ (with_leg (surveyed b) (leg_read ws).number (Some (leg_read ws))).legs
  entered_legs sets =
      read_sets leg_record b.legs after l.number.value (Some l) sets ∙ ap (λ (x : LegRecord). update eqb (standing_legs b.legs) x.number (Some x)) is

  pub entered_chained : (r : Result (Option Leg) (AllocFailed (ℕ × Leg))) → OnOk r (Updates nat_cmp b.legs after l.number.value (Some l)) → OnErr r (IsUnchanged b.legs after) → first (enter_refusals q s (surveyed b) ws) ≡ None → T (every (chains_over after) b.circuits)
  entered_chained (Ok old) sets same e = chained after b.circuits (with_leg (surveyed b) (leg_read ws).number (Some (leg_read ws))) b.circuits_numbered (enter_sound q s (surveyed b) (sound b) ws e) (entered_legs sets) refl
  entered_chained (Err y) sets same e = chained after b.circuits (surveyed b) b.circuits_numbered (sound b) (read_unchanged leg_record b.legs after same) refl
