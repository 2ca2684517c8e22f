-- What every call keeps, every way keeps. Assumes nothing.
use Rattle.std.proofs.Common.{◌≡◌, ℕ, List, [], ◌∷◌, Some, None, Option, refl, subst}
use Rattle.records.specs.declared.refusal.Refusal.{Refusal}
use Rattle.records.specs.Circuits.{circuit_read}
use Rattle.records.specs.Legs.{leg_read}
use Rattle.records.specs.Refusals.{first}
use Rattle.quantities.specs.Terms.{Terms}
use Rattle.standards.specs.Rules.{Rules}
use Rattle.plainbook.specs.Promise.{Way, Leads}
use Rattle.plainbook.specs.Refusals.{enter_refusals, join_refusals, strike_leg_refusals, strike_circuit_refusals}
use Rattle.plainbook.specs.Steps.{Held, Call, opening, entering, joining, striking_leg, striking_circuit, grading, listing, Answer, step, run, opened, empty, with_leg, with_circuit, unless_refused}
use Rattle.plainbook.specs.Surveys.{Survey}

module _ {Element : Type 0} (P : Terms Element → Rules → Survey → Type 0) where
  -- it holds where nothing stands, and each call that changes a survey keeps it, unless it is refused
  pub record Kept : Type 0 where
    pub opened : (q : Terms Element) (s : Rules) → P q s empty
    pub entered : (q : Terms Element) (s : Rules) (p : Survey) → P q s p → (ws : List ℕ) → first (enter_refusals q s p ws) ≡ None → P q s (with_leg p (leg_read ws).number (Some (leg_read ws)))
    pub joined : (q : Terms Element) (s : Rules) (p : Survey) → P q s p → (ws : List ℕ) → first (join_refusals q s p ws) ≡ None → P q s (with_circuit p (circuit_read ws).number (Some (circuit_read ws)))
    pub leg_struck : (q : Terms Element) (s : Rules) (p : Survey) → P q s p → (n : ℕ) → first (strike_leg_refusals q s p n) ≡ None → P q s (with_leg p n None)
    pub circuit_struck : (q : Terms Element) (s : Rules) (p : Survey) → P q s p → (n : ℕ) → first (strike_circuit_refusals q s p n) ≡ None → P q s (with_circuit p n None)

  module _ {Q S : Type 0} (terms : Q → Terms Element) (rules : S → Rules) (kept : Kept) where
    abbrev Has : Held Q S → Type 0
    Has h = P (terms h.quantity) (rules h.standard) h.survey

    either : (h : Held Q S) (words : List ℕ) (r : Option Refusal) (answer : Answer) (p : Survey) (after : List ℕ) → Has h → (r ≡ None → P (terms h.quantity) (rules h.standard) p) → Has (unless_refused h words r answer p after).held
    either h words None answer p after old new = new refl
    either h words (Some r) answer p after old new = old

    step_keeps : (c : Call Q S) (h : Held Q S) → Has h → Has (step terms rules c h).held
    step_keeps (opening q s) h has = kept.opened (terms q) (rules s)
    step_keeps (entering ws) h has = either h ws _ _ _ ws has (kept.entered (terms h.quantity) (rules h.standard) h.survey has ws)
    step_keeps (joining ws) h has = either h ws _ _ _ ws has (kept.joined (terms h.quantity) (rules h.standard) h.survey has ws)
    step_keeps (striking_leg n) h has = either h [] _ _ _ [] has (kept.leg_struck (terms h.quantity) (rules h.standard) h.survey has n)
    step_keeps (striking_circuit n) h has = either h [] _ _ _ [] has (kept.circuit_struck (terms h.quantity) (rules h.standard) h.survey has n)
    step_keeps grading h has = either h [] _ _ h.survey [] has (λ _. has)
    step_keeps (listing class ws) h has = either h ws _ _ h.survey _ has (λ _. has)

    run_keeps : (h : Held Q S) (calls : List (Call Q S)) → Has h → Has (run terms rules h calls)
    run_keeps h [] has = has
    run_keeps h (c ∷ cs) has = run_keeps (step terms rules c h).held cs (step_keeps c h has)

    pub way_keeps : (w : Way Q S) (q : Q) (s : S) (p : Survey) → Leads terms rules w q s p → P (terms q) (rules s) p
    way_keeps w q s p e = subst Has e (run_keeps (opened w.quantity w.standard) w.calls (kept.opened (terms w.quantity) (rules w.standard)))
