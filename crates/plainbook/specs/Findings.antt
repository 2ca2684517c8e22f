-- What a survey shows of each leg, of each circuit and of the whole.
use Rattle.std.specs.Prelude.{ℕ, ◌+◌, ◌-◌, ◌^◌, min, cond, List, [], ◌∷◌, map, length}
use Rattle.records.specs.declared.leg.Running.{Running}
use Rattle.records.specs.declared.leg.Running.TheVariants.{Single, Double}
use Rattle.records.specs.Circuits.{CircuitRecord}
use Rattle.records.specs.Legs.{LegRecord, running}
use Rattle.quantities.specs.Sums.{as_run, total}
use Rattle.quantities.specs.Terms.{Terms}
use Rattle.standards.specs.declared.finding.CircuitFinding.{CircuitFinding}
use Rattle.standards.specs.declared.finding.Form.{Form}
use Rattle.standards.specs.declared.finding.LegFinding.{LegFinding}
use Rattle.standards.specs.declared.finding.WholeFinding.{WholeFinding}
use Rattle.standards.specs.Observed.{leg_finding}
use Rattle.plainbook.specs.Surveys.{Survey, Run, runs, standing, closed, leg_numbers, circuit_numbers}

-- ---- a circuit's legs together
abbrev pub total_length : List Run → ℕ
total_length [] = 0
total_length (r ∷ rs) = r.leg.length.metres + total_length rs

-- single if any leg is single
abbrev pub joined : Running → Running → Running
joined Single r = Single
joined Double r = r

abbrev pub circuit_running : List Run → Running
circuit_running [] = Double
circuit_running (r ∷ rs) = joined (running r.leg.back) (circuit_running rs)

abbrev pub form : List Run → Form
form rs = record { closed = closed rs; legs = length rs }

module _ {Element : Type 0} (q : Terms Element) where
  -- what a leg adds to a circuit: opposite where it is run against
  abbrev pub contribution : Run → Element
  contribution r = as_run q.opposite r.sense (q.contribution r.leg.value r.leg.back)

  -- the same whichever way the leg is run
  abbrev pub own_misclosure : LegRecord → Element
  own_misclosure l = q.misclosure l.value l.back

  -- the sum of contributions, less the due sum
  abbrev pub closure : List Run → (due : ℕ) → Element
  closure rs due = q.plus (total q (map contribution rs)) (q.opposite (q.due due))

  abbrev pub summed_misclosure : List Run → Element
  summed_misclosure rs = total q (map (λ r. own_misclosure r.leg) rs)

  -- the size of the closure, 0 where the circuit is open
  abbrev pub closure_size : List Run → (due : ℕ) → ℕ
  closure_size rs due = cond (closed rs) (q.size (closure rs due)) 0

  abbrev pub runs_finding : List Run → (due : ℕ) → CircuitFinding
  runs_finding rs due =
      record {
        form = form rs;
        length = record { metres = total_length rs };
        running = circuit_running rs;
        closure = closure_size rs due;
        misclosure = q.size (summed_misclosure rs);
      }

  abbrev pub circuit_finding : Survey → CircuitRecord → CircuitFinding
  circuit_finding p c = runs_finding (runs p.legs c.legs) c.due

-- the whole: how many circuits are closed, and the sum of their closure sizes, which stops at 2^64 - 1
abbrev pub closed_count : List CircuitFinding → ℕ
closed_count [] = 0
closed_count (f ∷ fs) = cond f.form.closed 1 0 + closed_count fs

abbrev pub closure_sum : List CircuitFinding → ℕ
closure_sum [] = 0
closure_sum (f ∷ fs) = f.closure + closure_sum fs

abbrev pub whole_finding : List CircuitFinding → WholeFinding
whole_finding fs = record { circuits = closed_count fs; closures = min (closure_sum fs) (2 ^ 64 - 1) }

module _ {Element : Type 0} (q : Terms Element) (p : Survey) where
  abbrev pub leg_findings : List LegFinding
  leg_findings = map (leg_finding q) (standing p.legs leg_numbers)

  abbrev pub circuit_findings : List CircuitFinding
  circuit_findings = map (circuit_finding q p) (standing p.circuits circuit_numbers)

  abbrev pub the_whole : WholeFinding
  the_whole = whole_finding circuit_findings
