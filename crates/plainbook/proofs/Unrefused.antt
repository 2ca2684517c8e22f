-- What a call that is not refused shows, part by part. Assumes nothing.
use Rattle.std.proofs.Common.{◌≡◌, ℕ, true, false, not, List, [], ◌∷◌, ◌++◌, is_some, None, ap}
use Rattle.records.specs.declared.refusal.Reason.TheVariants.{Range, Measure, Observation, Form, Taken, Absent, InUse}
use Rattle.records.specs.Circuits.{circuit_read, circuit_refusals, circuit_fits}
use Rattle.records.specs.Legs.{leg_read, leg_refusals, leg_fits}
use Rattle.records.specs.Ranges.{is_leg_number, is_circuit_number}
use Rattle.records.specs.Refusals.{first, refusal, unless}
use Rattle.records.proofs.CircuitLaws.{circuits_read_back}
use Rattle.records.proofs.LegLaws.{legs_read_back}
use Rattle.quantities.specs.Acceptance.{measure_refusals, due_refusals, unaccepted, value_place, back_place, due_place}
use Rattle.quantities.specs.Terms.{Terms}
use Rattle.standards.specs.Acceptance.{observation_refusals, form_refusals, refused_at, length_place, readings_place, form_place}
use Rattle.standards.specs.Rules.{Rules}
use Rattle.plainbook.specs.Findings.{form}
use Rattle.plainbook.specs.Refusals.{enter_refusals, join_refusals, strike_leg_refusals, chain_refusals, refused_if}
use Rattle.plainbook.specs.Surveys.{Survey, runs, uses, user, circuit_numbers}
use Rattle.plainbook.proofs.Firsts.{first_none, first_append, no_place, not_if, passed}
use Rattle.plainbook.proofs.Numbers.{circuit_numbered, first_none_passes}

-- ---- words that are not refused are those of a record that fits
pub leg_fitting : (ws : List ℕ) → first (leg_refusals ws) ≡ None → leg_fits (leg_read ws) ≡ true
leg_fitting ws e = (legs_read_back.1 ws (leg_read ws) (ap (λ r. unless r (leg_read ws)) e)).1

pub circuit_fitting : (ws : List ℕ) → first (circuit_refusals ws) ≡ None → circuit_fits (circuit_read ws) ≡ true
circuit_fitting ws e = (circuits_read_back.1 ws (circuit_read ws) (ap (λ r. unless r (circuit_read ws)) e)).1

module _ {Element : Type 0} (q : Terms Element) (s : Rules) (p : Survey) where
  -- ---- a leg entered
  pub record Entered (ws : List ℕ) : Type 0 where
    pub fits : leg_fits (leg_read ws) ≡ true
    pub value : q.accepts_value (leg_read ws).value ≡ true
    pub back : q.accepts_back (leg_read ws).back ≡ true
    pub length : s.accepts_length (leg_read ws).length ≡ true
    pub readings : s.accepts_readings (leg_read ws).readings ≡ true
    pub free : is_some (p.legs (leg_read ws).number) ≡ false

  pub entered : (ws : List ℕ) → first (enter_refusals q s p ws) ≡ None → Entered ws
  entered ws e =
      let l = leg_read ws in
      let p0 = first_append (leg_refusals ws) _ e in
      let p1 = first_append (measure_refusals q l) _ p0.1 in
      let p2 = first_append (observation_refusals s l) _ p1.1 in
      let value = first_none (unaccepted (q.accepts_value l.value) value_place) (unaccepted (q.accepts_back l.back) back_place ∷ []) p1.0 in
      let back = first_none (unaccepted (q.accepts_back l.back) back_place) [] value.1 in
      let readings_refusal = refusal Observation (refused_at readings_place (s.accepts_readings l.readings)) in
      let length = first_none (refusal Observation (refused_at length_place (s.accepts_length l.length))) (readings_refusal ∷ []) p2.0 in
      record {
        fits = leg_fitting ws p0.0;
        value = passed Measure value_place _ value.0;
        back = passed Measure back_place _ back.0;
        length = passed Observation length_place _ length.0;
        readings = passed Observation readings_place _ (first_none readings_refusal [] length.1).0;
        free = not_if Taken 0 _ (first_none (refused_if Taken 0 (is_some (p.legs l.number))) [] p2.1).0;
      }

  -- ---- a circuit joined
  pub record Joined (ws : List ℕ) : Type 0 where
    pub fits : circuit_fits (circuit_read ws) ≡ true
    pub due : q.accepts_due (circuit_read ws).due ≡ true
    pub chain : first (chain_refusals p.legs [] None 2 (circuit_read ws).legs) ≡ None
    pub form : s.accepts_form (form (runs p.legs (circuit_read ws).legs)) ≡ true

  pub joined : (ws : List ℕ) → first (join_refusals q s p ws) ≡ None → Joined ws
  joined ws e =
      let c = circuit_read ws in
      let chain = chain_refusals p.legs [] None 2 c.legs in
      let last = form_refusals s (form (runs p.legs c.legs)) in
      let p0 = first_append (circuit_refusals ws) _ e in
      let p1 = first_none (refused_if Taken 0 (is_some (p.circuits c.number))) (due_refusals q c.due ++ (chain ++ last)) p0.1 in
      let p2 = first_append (due_refusals q c.due) (chain ++ last) p1.1 in
      let p3 = first_append chain last p2.1 in
      record {
        fits = circuit_fitting ws p0.0;
        due = passed Measure due_place _ (first_none (unaccepted (q.accepts_due c.due) due_place) [] p2.0).0;
        chain = p3.0;
        form = passed Form form_place _ (first_none (refusal Form (refused_at form_place (s.accepts_form (form (runs p.legs c.legs))))) [] p3.1).0;
      }

  -- ---- a leg struck: no circuit with a number in range uses it
  pub struck_unused : (n : ℕ) → first (strike_leg_refusals q s p n) ≡ None → (m : ℕ) → is_circuit_number m ≡ true → uses p n m ≡ false
  struck_unused n e m ok =
      let p0 = first_none (refused_if Range 0 (not (is_leg_number n))) (refused_if Absent 0 (not (is_some (p.legs n))) ∷ (refusal InUse (user p n) ∷ [])) e in
      let p1 = first_none (refused_if Absent 0 (not (is_some (p.legs n)))) (refusal InUse (user p n) ∷ []) p0.1 in
      let none = no_place InUse (user p n) (first_none (refusal InUse (user p n)) [] p1.1).0 in
      first_none_passes (uses p n) circuit_numbers m (circuit_numbered m ok) none
