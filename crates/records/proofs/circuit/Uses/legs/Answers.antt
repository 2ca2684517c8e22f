use Rattle.std.proofs.Common.{◌≡◌, suc, ◌+◌, map, drop, None, sym, ap, ◌∙◌, arith}
use Rattle.std.proofs.lemmas.List.{take_all}
use Rattle.std.proofs.lemmas.Bool.{both_ways}
use Rattle.records.specs.Circuits.{use_read}
use Rattle.records.specs.Uses.{use_unranged}
use Rattle.records.proofs.Circuits.{read_some, read_is, still_ranged, read_more}
use Rattle.records.proofs.circuit.Uses.legs.Goals as goal

pub unreachable-requires : goal.unreachable-requires
unreachable-requires c =
    let i = c.loop-word.word-index in
    let good = still_ranged c.args.self.now.words.now i (2 + i) 0 c.loop-word-test.true c.loop-word.invariant.0 in
    both_ways _ (sym (read_some None _ _ c.in_default.ensures)) good.0

pub loop-word-preserved : goal.loop-word-preserved
loop-word-preserved c =
    let ws = c.args.self.now.words.now in
    let i = c.loop-word.word-index in
    let good = still_ranged ws i (2 + i) 0 c.loop-word-test.true c.loop-word.invariant.0 in
    let more : 2 + (i + 1) ≡ suc (2 + i) = omega arith in (
      ap (λ j. use_unranged j (drop (i + 1) ws)) more ∙ good.1,
      read_more _ _ c.in-Some.leg_use ws i 0 c.loop-word-test.true c.in_ok-push.ensures.items c.loop-word.invariant.1 (read_is c.in-Some.leg_use _ _ c.in-Some.ensures),
    )

pub returns : goal.returns
returns c = c.loop-word.invariant.1 ∙ ap (map use_read) (take_all _ _ c.loop-word-test.false)
