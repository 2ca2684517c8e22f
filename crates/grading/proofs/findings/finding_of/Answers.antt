use Rattle.std.proofs.Common.{◌+◌, ◌∷◌, length, vec_len, drop, sym, refl, ap, ◌∙◌, subst, arith}
use Rattle.plainbook.specs.Findings.{joined, runs_finding}
use Rattle.survey.specs.Standing.{standing_legs}
use Rattle.survey.specs.Runs.{run_record}
use Rattle.survey.proofs.Walking.{run_gone, run_found}
use Rattle.records.specs.Circuits.{use_record}
use Rattle.records.proofs.Ranges.{upto}
use Rattle.grading.proofs.Running.{SoFar, runs_of, far_more, far_end, run_next, run_passed, no_run}
use Rattle.grading.proofs.findings.finding_of.Goals as goal

pub loop-used-preserved-in_default : goal.loop-used-preserved-in_default
loop-used-preserved-in_default g c =
    let b = c.args.book.now in
    let q = g.Q.Quantity.meaning b.quantity in
    let legs = standing_legs b.legs in
    let us = c.deref-used-items.result.now in
    let i = c.loop-used.used-index in
    let u = c.used-item.result in
    let gone = run_gone (use_record u) (legs u.leg.value) (sym c.in_default.ensures) in (
      subst (λ rs. SoFar q c.loop-used.path c.loop-used.metres c.loop-used.running c.loop-used.contributions c.loop-used.misclosures rs (runs_of legs us))
          (run_passed legs us i u (omega arith) c.used-item.is gone) c.loop-used.invariant.0,
      omega (arith, c.loop-used.invariant.1),
      omega (arith, c.loop-used.invariant.2),
    )

pub loop-used-preserved : goal.loop-used-preserved
loop-used-preserved g c =
    let b = c.args.book.now in
    let q = g.Q.Quantity.meaning b.quantity in
    let legs = standing_legs b.legs in
    let us = c.deref-used-items.result.now in
    let i = c.loop-used.used-index in
    let u = c.used-item.result in
    let l = c.in-Some.run'.leg.now in
    let r = run_record c.in-Some.run' in
    let found = run_found legs (use_record u) (use_record u) r refl c.in-Some.ensures in
    let before = subst (λ rs. SoFar q c.loop-used.path c.loop-used.metres c.loop-used.running c.loop-used.contributions c.loop-used.misclosures rs (runs_of legs us))
    (run_next legs us i u (omega arith) c.used-item.is r.leg found.0 ∙ ap (λ r. r ∷ runs_of legs (drop (i + 1) us)) (sym found.1)) c.loop-used.invariant.0 in (
      far_more q c.loop-used.path _ c.loop-used.metres c.loop-used.running _ c.loop-used.contributions _ c.loop-used.misclosures _
          r (runs_of legs (drop (i + 1) us)) (runs_of legs us) before
          (omega (arith, c.loop-used.invariant.2, upto 1 16 (vec_len c.args.circuit.now.legs) c.args.circuit.now.few, c.args.circuit.now.legs.ok.0, ap length c.deref-used-items.ensures.value))
          c.follow-path.ensures (c.joined-running.ensures ∙ ap (joined c.loop-used.running) c.running.ensures)
          (c.sum-contributions.ensures ∙ ap (q.plus c.loop-used.contributions) c.contribution.ensures)
          (c.sum-misclosures.ensures ∙ ap (q.plus c.loop-used.misclosures) c.own_misclosure.ensures),
      omega (arith, c.loop-used.invariant.1, l.length_fits),
      omega (arith, c.loop-used.invariant.2, ap (λ p. p.legs) c.follow-path.ensures),
    )

pub returns : goal.returns
returns g c =
    let b = c.args.book.now in
    let q = g.Q.Quantity.meaning b.quantity in
    let legs = standing_legs b.legs in
    let us = c.deref-used-items.result.now in
    let i = c.loop-used.used-index in
    let due = c.args.circuit.now.due.bits in
    let done = subst (λ rs. SoFar q c.loop-used.path c.loop-used.metres c.loop-used.running c.loop-used.contributions c.loop-used.misclosures rs (runs_of legs us))
    (no_run legs us i (omega arith)) c.loop-used.invariant.0 in
    far_end q c.loop-used.path c.loop-used.metres c.loop-used.running c.loop-used.contributions c.loop-used.misclosures (runs_of legs us) due _ _ _ done
    c.form-form.ensures c.closure.ensures c.size.ensures
    ∙ ap (λ us. runs_finding q (runs_of legs us) due) c.deref-used-items.ensures.value
