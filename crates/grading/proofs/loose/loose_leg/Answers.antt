use Rattle.std.proofs.Common.{not, sym, ap, ◌∙◌, arith}
use Rattle.std.specs.BTreeMap.{values}
use Rattle.survey.proofs.Picks.{pick_key, key_skip, key_take}
use Rattle.survey.proofs.Using.{among, used_in, unused_in, among_more, among_here, among_none, loose_is, used_skip, used_here}
use Rattle.grading.proofs.loose.loose_leg.Goals as goal

pub loop-used-preserved : goal.loop-used-preserved
loop-used-preserved g c = among_more _ c.deref-used-items.result.now c.loop-used.used-index c.used-item.result (omega arith) c.used-item.is c.if-used-number.false ∙ c.loop-used.invariant

pub loop-circuit-preserved : goal.loop-circuit-preserved
loop-circuit-preserved g c =
    let number = c.in-Some.number.now in
    used_skip number c.in-Some-circuit.ensures.steps
    (ap (among number) (sym c.deref-used-items.ensures.value) ∙ sym c.loop-used.invariant ∙ among_none number c.deref-used-items.result.now c.loop-used.used-index (omega arith))
    c.loop-circuit.invariant

pub legs-preserved : goal.legs-preserved
legs-preserved g c =
    let number = c.in-Some.number.now in
    let cs = values c.args.book.now.circuits in
    let used = used_here number c.in-Some-circuit.ensures.steps (ap (among number) (sym c.deref-used-items.ensures.value) ∙ sym c.loop-used.invariant ∙ among_here number c.deref-used-items.result.now c.loop-used.used-index c.used-item.result (omega arith) c.used-item.is c.if-used-number.true) c.loop-circuit.invariant in
    key_skip (unused_in cs) c.in-Some.ensures.steps (ap not used) c.legs.invariant

pub returns-in-legs : goal.returns-in-legs
returns-in-legs g c =
    let number = c.in-Some.number.now in
    let b = c.args.book.now in
    let unused = sym c.loop-circuit.invariant ∙ ap (used_in number) (c.in-None-circuit.ensures.steps.0) in
    sym (loose_is b ∙ key_take (unused_in (values b.circuits)) c.in-Some.ensures.steps (ap not unused) c.legs.invariant)

pub returns : goal.returns
returns g c =
    let b = c.args.book.now in
    sym (loose_is b ∙ sym c.legs.invariant ∙ ap (pick_key (unused_in (values b.circuits))) (c.in-None.ensures.steps.0))
