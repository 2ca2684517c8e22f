use Rattle.std.proofs.Common.{◌≡◌, drop}
use Rattle.std.specs.BTreeMap.{keys, values}
use Rattle.survey.proofs.Picks.{pick_key}
use Rattle.survey.proofs.Using.{among, used_in, unused_in}
use Rattle.grading.proofs.loose.loose_leg.Given as goal

abbrev pub invariant-loop-used : goal.invariant-loop-used
invariant-loop-used g l = among l.number (drop l.used-index l.used-items) ≡ among l.number l.used-items

abbrev pub invariant-loop-circuit : goal.invariant-loop-circuit
invariant-loop-circuit g l = used_in l.number l.circuit-iterator ≡ used_in l.number (values l.book.circuits)

abbrev pub invariant-legs : goal.invariant-legs
invariant-legs g l =
    pick_key (unused_in (values l.book.circuits)) l.number-iterator ≡ pick_key (unused_in (values l.book.circuits)) (keys l.book.legs)
