use Rattle.std.proofs.Common.{◌+◌, ◌-◌, ◌^◌, ◌≤◌, map, length}
use Rattle.std.specs.BTreeMap.{values}
use Rattle.grading.proofs.Collecting.{Counted, circuit_shown}
use Rattle.grading.proofs.findings.whole_finding.Given as goal

-- what is counted so far, and what is left, are the whole
abbrev pub invariant-loop-circuit : goal.invariant-loop-circuit
invariant-loop-circuit g l =
    let find = circuit_shown (g.Q.Quantity.meaning l.book.quantity) l.book in
    Counted l.circuits l.closures (map find l.circuit-iterator) (map find (values l.book.circuits))
    × (l.circuits + length l.circuit-iterator ≤ 32)
    × (l.closures ≤ 2 ^ 64 - 1)
