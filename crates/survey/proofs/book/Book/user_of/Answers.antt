use Rattle.std.proofs.Common.{sym, ap, ◌∙◌, arith}
use Rattle.survey.proofs.Picks.{pick, pick_skip, pick_take}
use Rattle.survey.proofs.Using.{among, uses_leg, among_more, among_here, among_none, user_is}
use Rattle.survey.proofs.book.Book.user_of.Goals as goal

pub loop-used-preserved : goal.loop-used-preserved
loop-used-preserved g c =
    among_more _ c.deref-used-items.result.now c.loop-used.used-index c.used-item.result (omega arith) c.used-item.is c.if-used-leg.false ∙ c.loop-used.invariant

pub loop-number-preserved : goal.loop-number-preserved
loop-number-preserved g c =
    let turn = c.in-Some.ensures.steps in
    let leg = c.args.leg in
    pick_skip (uses_leg leg) turn
    (ap (among leg) (sym c.deref-used-items.ensures.value) ∙ sym c.loop-used.invariant ∙ among_none leg c.deref-used-items.result.now c.loop-used.used-index (omega arith))
    c.loop-number.invariant

pub returns-then-used-leg : goal.returns-then-used-leg
returns-then-used-leg g c =
    let turn = c.in-Some.ensures.steps in
    let leg = c.args.leg in
    sym (user_is c.args.self.now leg
    ∙ pick_take (uses_leg leg) turn
    (ap (among leg) (sym c.deref-used-items.ensures.value) ∙ sym c.loop-used.invariant ∙ among_here leg c.deref-used-items.result.now c.loop-used.used-index c.used-item.result (omega arith) c.used-item.is c.if-used-leg.true)
    c.loop-number.invariant)

pub returns : goal.returns
returns g c =
    let leg = c.args.leg in
    sym (user_is c.args.self.now leg ∙ sym c.loop-number.invariant ∙ ap (pick (uses_leg leg)) c.in-None.ensures.steps.0)
