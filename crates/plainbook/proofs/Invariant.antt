-- What every way keeps: numbers within their ranges, and circuits whose legs stand and chain. Assumes nothing.
use Rattle.std.proofs.Common.{◌≡◌, ℕ, true, eqb, List, [], is_some, Some, None, Option, sym, ap, ◌∙◌, subst}
use Rattle.std.specs.Map.{update}
use Rattle.std.proofs.lemmas.Bool.{and_parts, false≢true}
use Rattle.records.specs.Circuits.{CircuitRecord, circuit_read, circuit_fits}
use Rattle.records.specs.Legs.{LegRecord, leg_read, leg_ranged, leg_fits}
use Rattle.records.specs.Ranges.{is_leg_number, is_circuit_number}
use Rattle.records.specs.Refusals.{first}
use Rattle.quantities.specs.Terms.{Terms}
use Rattle.standards.specs.Rules.{Rules}
use Rattle.plainbook.specs.Refusals.{enter_refusals, join_refusals, strike_leg_refusals, chain_refusals}
use Rattle.plainbook.specs.Steps.{empty, with_leg, with_circuit}
use Rattle.plainbook.specs.Surveys.{Survey, circuit_names}
use Rattle.plainbook.proofs.Chains.{chained, chain_same, kept_absent, kept_unnamed}
use Rattle.plainbook.proofs.Standing.{some_same, none_some, ranged, changed, elsewhere}
use Rattle.plainbook.proofs.Unrefused.{entered, joined, struck_unused}
use Rattle.plainbook.proofs.Ways.{Kept}

pub record Sound (p : Survey) : Type 0 where
  pub leg_range : (n : ℕ) → is_some (p.legs n) ≡ true → is_leg_number n ≡ true
  pub circuit_range : (n : ℕ) → is_some (p.circuits n) ≡ true → is_circuit_number n ≡ true
  pub chains : (n : ℕ) (c : CircuitRecord) → p.circuits n ≡ Some c → first (chain_refusals p.legs [] None 2 c.legs) ≡ None

pub empty_sound : Sound empty
empty_sound =
    record {
      leg_range = λ n e. absurd (false≢true e);
      circuit_range = λ n e. absurd (false≢true e);
      chains = λ n c e. absurd (none_some e);
    }

-- a record that fits has a number in range
leg_in_range : (l : LegRecord) → leg_fits l ≡ true → is_leg_number l.number ≡ true
leg_in_range l e = (and_parts (is_leg_number l.number) _ (and_parts (leg_ranged l) _ e).0).0

pub circuit_in_range : (c : CircuitRecord) → circuit_fits c ≡ true → is_circuit_number c.number ≡ true
circuit_in_range c e = (and_parts (is_circuit_number c.number) _ e).0

module _ {Element : Type 0} (q : Terms Element) (s : Rules) (p : Survey) (sound : Sound p) where
  with_chains : (n : ℕ) (w : Option LegRecord) → ((m : ℕ) (c : CircuitRecord) → p.circuits m ≡ Some c → chain_refusals p.legs [] None 2 c.legs ≡ chain_refusals (update eqb p.legs n w) [] None 2 c.legs) →
      (m : ℕ) (c : CircuitRecord) → p.circuits m ≡ Some c → first (chain_refusals (update eqb p.legs n w) [] None 2 c.legs) ≡ None
  with_chains n w same m c e = ap first (sym (same m c e)) ∙ sound.chains m c e

  -- a leg entered
  pub enter_sound : (ws : List ℕ) → first (enter_refusals q s p ws) ≡ None → Sound (with_leg p (leg_read ws).number (Some (leg_read ws)))
  enter_sound ws e =
      let n = (leg_read ws).number in
      let w : Option LegRecord = Some (leg_read ws) in
      let new = entered q s p ws e in
      record {
        leg_range = ranged is_leg_number p.legs n w sound.leg_range (λ _. leg_in_range (leg_read ws) new.fits);
        circuit_range = sound.circuit_range;
        chains =
            with_chains n w
            (λ m c h. chain_same p.legs (update eqb p.legs n w) [] None 2 c.legs
            (kept_absent p.legs (update eqb p.legs n w) n c.legs new.free (λ k d. elsewhere p.legs n k w d) (chained p.legs [] None 2 c.legs (sound.chains m c h)).0));
      }

  -- a leg struck: no circuit that stands names it
  pub strike_leg_sound : (n : ℕ) → first (strike_leg_refusals q s p n) ≡ None → Sound (with_leg p n None)
  strike_leg_sound n e =
      record {
        leg_range = ranged is_leg_number p.legs n None sound.leg_range (λ h. absurd (false≢true h));
        circuit_range = sound.circuit_range;
        chains =
            with_chains n None
            (λ m c h. chain_same p.legs (update eqb p.legs n None) [] None 2 c.legs
            (kept_unnamed p.legs (update eqb p.legs n None) n c.legs (ap (circuit_names n) (sym h) ∙ struck_unused q s p n e m (sound.circuit_range m (ap is_some h))) (λ k d. elsewhere p.legs n k None d)));
      }

  -- a circuit joined or struck
  circuit_chains : (n : ℕ) (w : Option CircuitRecord) → ((c : CircuitRecord) → w ≡ Some c → first (chain_refusals p.legs [] None 2 c.legs) ≡ None) →
      (m : ℕ) (c : CircuitRecord) → update eqb p.circuits n w m ≡ Some c → first (chain_refusals p.legs [] None 2 c.legs) ≡ None
  circuit_chains n w here = changed (λ _ c. first (chain_refusals p.legs [] None 2 c.legs) ≡ None) p.circuits n w sound.chains here

  pub join_sound : (ws : List ℕ) → first (join_refusals q s p ws) ≡ None → Sound (with_circuit p (circuit_read ws).number (Some (circuit_read ws)))
  join_sound ws e =
      let c = circuit_read ws in
      let new = joined q s p ws e in
      record {
        leg_range = sound.leg_range;
        circuit_range = ranged is_circuit_number p.circuits c.number (Some c) sound.circuit_range (λ _. circuit_in_range c new.fits);
        chains = circuit_chains c.number (Some c) (λ d h. subst (λ x. first (chain_refusals p.legs [] None 2 x.legs) ≡ None) (some_same h) new.chain);
      }

  pub strike_circuit_sound : (n : ℕ) → Sound (with_circuit p n None)
  strike_circuit_sound n =
      record {
        leg_range = sound.leg_range;
        circuit_range = ranged is_circuit_number p.circuits n None sound.circuit_range (λ h. absurd (false≢true h));
        chains = circuit_chains n None (λ c h. absurd (none_some h));
      }

-- every way keeps it
pub sound_kept : {Element : Type 0} → Kept {Element = Element} (λ _ _ p. Sound p)
sound_kept =
    record {
      opened = λ q s. empty_sound;
      entered = enter_sound;
      joined = join_sound;
      leg_struck = strike_leg_sound;
      circuit_struck = λ q s p sound n _. strike_circuit_sound q s p sound n;
    }
