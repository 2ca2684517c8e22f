-- Along a circuit's legs: what is so far, and what is left, decide the finding. Assumes nothing.
use Rattle.std.proofs.Common.{◌≡◌, ℕ, ◌+◌, ◌<◌, ◌≤◌, List, [], ◌∷◌, ◌++◌, map, length, get_or, drop, Some, None, Option, sym, refl, ap, ◌∙◌, ap₂, arith}
use Rattle.std.specs.Option.{option_to_list}
use Rattle.std.proofs.lemmas.List.{at_drop_more, at_drop_all}
use Rattle.records.specs.declared.circuit.LegUse.{LegUse}
use Rattle.records.specs.declared.leg.Running.{Running}
use Rattle.records.specs.declared.leg.Running.TheVariants.{Single, Double}
use Rattle.records.specs.Circuits.{use_record}
use Rattle.records.specs.Legs.{LegRecord, running}
use Rattle.quantities.specs.Sums.{total}
use Rattle.quantities.specs.Terms.{Terms}
use Rattle.standards.specs.declared.finding.CircuitFinding.{CircuitFinding}
use Rattle.standards.specs.declared.finding.Form.{Form}
use Rattle.plainbook.specs.Findings.{joined, form, total_length, circuit_running, contribution, own_misclosure, runs_finding}
use Rattle.plainbook.specs.Surveys.{Run, runs, run_of, closed}
use Rattle.survey.specs.declared.path.Path.{Path}
use Rattle.survey.specs.Paths.{followed, path_form}
use Rattle.survey.proofs.Paths.{form_after, form_start, form_more, form_end}
use Rattle.grading.specs.Closures.{closure_where}

-- ---- running, and sums
pub joined_more : (a b c : Running) → joined (joined a b) c ≡ joined a (joined b c)
joined_more Single b c = refl
joined_more Double b c = refl

pub joined_end : (a : Running) → joined a Double ≡ a
joined_end Single = refl
joined_end Double = refl

module _ {Element : Type 0} (q : Terms Element) where
  pub sum_start : (x : Element) → q.plus q.zero x ≡ x
  sum_start x = q.plus_comm q.zero x ∙ q.plus_zero x

-- ---- what is so far, with what is left
pub record SoFar {Element : Type 0} (q : Terms Element) (p : Path) (metres : ℕ) (run : Running) (contributions misclosures : Element) (rest all : List Run) : Type 0 where
  pub form : form_after p rest ≡ form all
  pub length : metres + total_length rest ≡ total_length all
  pub running : joined run (circuit_running rest) ≡ circuit_running all
  pub closure : q.plus contributions (total q (map (contribution q) rest)) ≡ total q (map (contribution q) all)
  pub misclosure : q.plus misclosures (total q (map (λ r. own_misclosure q r.leg) rest)) ≡ total q (map (λ r. own_misclosure q r.leg) all)

module _ {Element : Type 0} (q : Terms Element) where
  pub far_start : (p : Path) (x y : Element) (all : List Run) → p ≡ record { nodes = None; legs = 0 } → x ≡ q.zero → y ≡ q.zero → SoFar q p 0 Double x y all all
  far_start p x y all is zx zy =
      record {
        form = ap (λ p. form_after p all) is ∙ form_start all;
        length = omega arith;
        running = refl;
        closure = ap (λ x. q.plus x (total q (map (contribution q) all))) zx ∙ sum_start q _;
        misclosure = ap (λ y. q.plus y (total q (map (λ r. own_misclosure q r.leg) all))) zy ∙ sum_start q _;
      }

  pub far_more : (p p' : Path) (m : ℕ) (run run' : Running) (x x' y y' : Element) (r : Run) (rest all : List Run) → SoFar q p m run x y (r ∷ rest) all
      → p.legs < 255 → p' ≡ followed p r → run' ≡ joined run (running r.leg.back) → x' ≡ q.plus x (contribution q r) → y' ≡ q.plus y (own_misclosure q r.leg)
      → SoFar q p' (m + r.leg.length.metres) run' x' y' rest all
  far_more p p' m run run' x x' y y' r rest all h few ep er ex ey =
      record {
        form = ap (λ p. form_after p rest) ep ∙ form_more p r rest few ∙ h.form;
        length = omega (arith, h.length);
        running = ap (λ a. joined a (circuit_running rest)) er ∙ joined_more run _ _ ∙ h.running;
        closure = ap (λ x. q.plus x (total q (map (contribution q) rest))) ex ∙ q.plus_assoc _ _ _ ∙ h.closure;
        misclosure = ap (λ y. q.plus y (total q (map (λ r. own_misclosure q r.leg) rest))) ey ∙ q.plus_assoc _ _ _ ∙ h.misclosure;
      }

  pub far_end : (p : Path) (m : ℕ) (run : Running) (x y : Element) (all : List Run) (due : ℕ) (f : Form) (c z : ℕ) → SoFar q p m run x y [] all
      → f ≡ path_form p → c ≡ closure_where q f.closed x due → z ≡ q.size y
      → ◌≡◌ {A = CircuitFinding} (record { form = f; length = record { metres = m }; running = run; closure = c; misclosure = z }) (runs_finding q all due)
  far_end p m run x y all due f c z h ef ec ez =
      let shape : f ≡ form all = ef ∙ form_end p ∙ h.form in
      let metres : m ≡ total_length all = omega (arith, h.length) in
      let ran : run ≡ circuit_running all = sym (joined_end run) ∙ h.running in
      let sum : x ≡ total q (map (contribution q) all) = sym (q.plus_zero x) ∙ h.closure in
      let own : y ≡ total q (map (λ r. own_misclosure q r.leg) all) = sym (q.plus_zero y) ∙ h.misclosure in
      let closure : c ≡ closure_where q (closed all) (total q (map (contribution q) all)) due = ec ∙ ap₂ (λ (f : Form) x. closure_where q f.closed x due) shape sum in
      let misclosure = ez ∙ ap q.size own in
      λ i. record { form = shape i; length = record { metres = metres i }; running = ran i; closure = closure i; misclosure = misclosure i }

-- ---- the legs that are named, one use after another
module _ (legs : ℕ → Option LegRecord) where
  abbrev pub runs_of : List LegUse → List Run
  runs_of us = runs legs (map use_record us)

  module _ (us : List LegUse) (i : ℕ) (u : LegUse) (l : i < length us) (is : u ≡ get_or us i u) where
    next_use : (o : Option LegRecord) → legs u.leg.value ≡ o → runs_of (drop i us) ≡ option_to_list (run_of (use_record u) o) ++ runs_of (drop (i + 1) us)
    next_use o e =
        at_drop_more runs_of us i u l ∙ ap (λ v. runs_of (v ∷ drop (i + 1) us)) (sym is) ∙ ap (λ o. option_to_list (run_of (use_record u) o) ++ runs_of (drop (i + 1) us)) e

    pub run_next : (x : LegRecord) → legs u.leg.value ≡ Some x → runs_of (drop i us) ≡ record { leg = x; sense = u.sense } ∷ runs_of (drop (i + 1) us)
    run_next x e = next_use (Some x) e

    pub run_passed : legs u.leg.value ≡ None → runs_of (drop i us) ≡ runs_of (drop (i + 1) us)
    run_passed e = next_use None e

  pub no_run : (us : List LegUse) (i : ℕ) → length us ≤ i → runs_of (drop i us) ≡ []
  no_run us i l = at_drop_all runs_of us i l
