use Rattle.std.proofs.Common.{◌+◌, ◌≤◌, cond, map, length, sym, ap, ◌∙◌, subst, add-zero, arith, rules}
use Rattle.std.specs.BTreeMap.{values}
use Rattle.plainbook.specs.Findings.{whole_finding}
use Rattle.grading.proofs.Collecting.{Counted, counted_turn, counted_all, circuits_found, circuit_shown}
use Rattle.survey.proofs.Orders.{few_values}
use Rattle.grading.proofs.findings.whole_finding.Goals as goal
use Rattle.grading.proofs.findings.whole_finding.Goals.{then-finding, else-finding}

pub overflow_add-circuits : goal.overflow_add-circuits
overflow_add-circuits g c =
    let small : c.loop-circuit.circuits + 1 ≤ 32 = omega (arith, c.loop-circuit.invariant.1, ap length c.in-Some.ensures.steps) in
    search rules

pub loop-circuit-init : goal.loop-circuit-init
loop-circuit-init g c =
    let b = c.args.book.now in
    let find = circuit_shown (g.Q.Quantity.meaning b.quantity) b in
    let rest = c.into_iter-circuit-iterator.ensures.into_iter_gives ∙ c.values-circuit-items.ensures.rest in
    let few = few_values 32 b.circuits b.circuits_numbered in (
      subst (λ l. Counted 0 0 (map find l) (map find (values b.circuits))) (sym rest) (record { circuits = omega arith; closures = omega arith }),
      omega (arith, few, ap length rest),
      omega arith,
    )

pub loop-circuit-preserved : goal.loop-circuit-preserved
loop-circuit-preserved g c =
    let b = c.args.book.now in
    let n = c.loop-circuit.circuits in
    let turn = c.in-Some.ensures.steps in
    let few : c.if-finding.circuits ≤ n + 1 = elim c.if-finding.branch [ then-finding w ↦ omega (arith, w.circuits-is) | else-finding w ↦ omega (arith, w.circuits-is) ] in (
      counted_turn (circuit_shown (g.Q.Quantity.meaning b.quantity) b) c.loop-circuit.circuit-iterator c.next.new.self c.in-Some.circuit.now c.finding_of-finding.result n c.if-finding.circuits c.loop-circuit.closures c.saturating_add-closures.result _ turn
          c.finding_of-finding.ensures
          (elim c.if-finding.branch [ then-finding w ↦ w.circuits-is ∙ sym (ap (λ b. n + cond b 1 0) w.if-finding.true) | else-finding w ↦ w.circuits-is ∙ sym (add-zero n) ∙ sym (ap (λ b. n + cond b 1 0) w.if-finding.false) ])
          c.saturating_add-closures.ensures c.loop-circuit.invariant.0,
      omega (arith, few, c.loop-circuit.invariant.1, ap length turn),
      omega (arith, c.saturating_add-closures.ensures),
    )

pub returns : goal.returns
returns g c =
    let b = c.args.book.now in
    let q = g.Q.Quantity.meaning b.quantity in
    counted_all (circuit_shown q b) c.loop-circuit.circuit-iterator c.loop-circuit.circuits c.loop-circuit.closures _ c.in-None.ensures.steps.0 c.loop-circuit.invariant.2 c.loop-circuit.invariant.0 ∙ sym (ap whole_finding (circuits_found q b))
