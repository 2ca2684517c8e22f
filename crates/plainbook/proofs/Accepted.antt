-- Every way keeps it that what stands was accepted. Assumes nothing.
use Rattle.std.proofs.Common.{◌≡◌, ℕ, true, eqb, List, [], Some, None, Option, sym, refl, ap, ◌∙◌, subst}
use Rattle.std.specs.Map.{update}
use Rattle.records.specs.Circuits.{CircuitRecord, circuit_read}
use Rattle.records.specs.Legs.{LegRecord, leg_read}
use Rattle.records.specs.Ranges.{is_circuit_number}
use Rattle.records.specs.Refusals.{first}
use Rattle.quantities.specs.Terms.{Terms}
use Rattle.standards.specs.Rules.{Rules}
use Rattle.plainbook.specs.Accepted.{Linked, LegAccepted, CircuitAccepted, Accepted}
use Rattle.plainbook.specs.Findings.{form}
use Rattle.plainbook.specs.Refusals.{enter_refusals, join_refusals, strike_leg_refusals}
use Rattle.plainbook.specs.Steps.{empty, with_leg, with_circuit}
use Rattle.plainbook.specs.Surveys.{Survey, circuit_names}
use Rattle.plainbook.proofs.Chains.{SameLegs, chained, not_twice, runs_same, stand_same, kept_absent, kept_unnamed}
use Rattle.plainbook.proofs.Invariant.{circuit_in_range}
use Rattle.plainbook.proofs.Standing.{some_same, none_some, changed, elsewhere}
use Rattle.plainbook.proofs.Unrefused.{entered, joined, struck_unused}
use Rattle.plainbook.proofs.Ways.{Kept}

module _ {Element : Type 0} (q : Terms Element) (s : Rules) where
  empty_accepted : Accepted q s empty
  empty_accepted = record { legs = λ n l e. absurd (none_some e); circuits = λ n c e. absurd (none_some e) }

  -- a circuit rests on the legs that it names, and on no other
  circuit_kept : (f g : ℕ → Option LegRecord) (n : ℕ) (c : CircuitRecord) → SameLegs f g c.legs → CircuitAccepted q s f n c → CircuitAccepted q s g n c
  circuit_kept f g n c same h =
      let rs = runs_same f g c.legs same in
      record {
        number = h.number;
        fits = h.fits;
        due = h.due;
        stand = stand_same f g c.legs same h.stand;
        once = h.once;
        linked = subst Linked rs h.linked;
        form = ap (λ r. s.accepts_form (form r)) (sym rs) ∙ h.form;
      }

  module _ (p : Survey) (has : Accepted q s p) where
    -- a leg entered
    enter_accepted : (ws : List ℕ) → first (enter_refusals q s p ws) ≡ None → Accepted q s (with_leg p (leg_read ws).number (Some (leg_read ws)))
    enter_accepted ws e =
        let l = leg_read ws in
        let w : Option LegRecord = Some l in
        let new = entered q s p ws e in
        let here : LegAccepted q s l.number l =
        record { number = refl; fits = new.fits; value = new.value; back = new.back; length = new.length; readings = new.readings } in
        record {
          legs = changed (LegAccepted q s) p.legs l.number w has.legs (λ x h. subst (LegAccepted q s l.number) (some_same h) here);
          circuits =
              λ m c h.
              circuit_kept p.legs (update eqb p.legs l.number w) m c
              (kept_absent p.legs (update eqb p.legs l.number w) l.number c.legs new.free (λ k d. elsewhere p.legs l.number k w d) (has.circuits m c h).stand) (has.circuits m c h);
        }

    -- a leg struck: no circuit that stands names it
    in_range : (m : ℕ) (c : CircuitRecord) → p.circuits m ≡ Some c → is_circuit_number m ≡ true
    in_range m c h = subst (λ k. is_circuit_number k ≡ true) (has.circuits m c h).number (circuit_in_range c (has.circuits m c h).fits)

    strike_leg_accepted : (n : ℕ) → first (strike_leg_refusals q s p n) ≡ None → Accepted q s (with_leg p n None)
    strike_leg_accepted n e =
        record {
          legs = changed (LegAccepted q s) p.legs n None has.legs (λ x h. absurd (none_some h));
          circuits =
              λ m c h.
              circuit_kept p.legs (update eqb p.legs n None) m c
              (kept_unnamed p.legs (update eqb p.legs n None) n c.legs (ap (circuit_names n) (sym h) ∙ struck_unused q s p n e m (in_range m c h)) (λ k d. elsewhere p.legs n k None d)) (has.circuits m c h);
        }

    -- a circuit joined or struck
    join_accepted : (ws : List ℕ) → first (join_refusals q s p ws) ≡ None → Accepted q s (with_circuit p (circuit_read ws).number (Some (circuit_read ws)))
    join_accepted ws e =
        let c = circuit_read ws in
        let new = joined q s p ws e in
        let links = chained p.legs [] None 2 c.legs new.chain in
        let here : CircuitAccepted q s p.legs c.number c =
        record {
          number = refl;
          fits = new.fits;
          due = new.due;
          stand = links.0;
          once = (not_twice p.legs [] None 2 c.legs new.chain).1;
          linked = links.1;
          form = new.form;
        } in
        record {
          legs = has.legs;
          circuits = changed (CircuitAccepted q s p.legs) p.circuits c.number (Some c) has.circuits (λ x h. subst (CircuitAccepted q s p.legs c.number) (some_same h) here);
        }

    strike_circuit_accepted : (n : ℕ) → Accepted q s (with_circuit p n None)
    strike_circuit_accepted n =
        record {
          legs = has.legs;
          circuits = changed (CircuitAccepted q s p.legs) p.circuits n None has.circuits (λ x h. absurd (none_some h));
        }

-- every way keeps it
pub accepted_kept : {Element : Type 0} → Kept {Element = Element} Accepted
accepted_kept =
    record {
      opened = empty_accepted;
      entered = enter_accepted;
      joined = join_accepted;
      leg_struck = strike_leg_accepted;
      circuit_struck = λ q s p has n _. strike_circuit_accepted q s p has n;
    }
