use Rattle.std.proofs.Common.{◌≡◌, ◌≤◌, length, get_or, Some, sym, ap, ◌∙◌, arith, rules}
use Rattle.std.proofs.lemmas.Bool.{eqb-true, eqb-false, not-false, not-true}
use Rattle.records.specs.Layouts.{misplaced}
use Rattle.records.specs.Words.{kind}
use Rattle.records.proofs.Layouts.{needed, spared, other_kind, same_kind, surplus, over, lowest_misplaced}
use Rattle.records.proofs.layout.misplaced.Goals as goal
use Rattle.records.proofs.layout.misplaced.Goals.{in-None, in-Some}

pub returns-then-broken : goal.returns-then-broken
returns-then-broken c =
    let ws = c.args.words.now in
    let v : Some c.loop-i.i ≡ misplaced 0 c.args.slots.now ws = elim c.match-get.branch [
      | in-None w ↦
          let past : length ws ≤ c.loop-i.i = search rules in
          needed _ ws _ _ c.loop-i-test.true past (sym w.broken-is ∙ c.if-broken.true) ∙ c.loop-i.invariant
      | in-Some w ↦
          let here : w.in-Some.word.now ≡ get_or ws c.loop-i.i 0 = search rules in
          other_kind _ ws _ _ 0 c.loop-i-test.true (omega (arith, w.in-Some.ensures.lookup)) (λ e. eqb-false _ _ (sym w.is_of.ensures ∙ not-true _ (sym w.broken-is ∙ c.if-broken.true)) (ap kind here ∙ e))
          ∙ c.loop-i.invariant
    ] in
    record { value = v; lowest = lowest_misplaced c.args.slots.now ws _ v; bound = search rules }

pub loop-i-preserved : goal.loop-i-preserved
loop-i-preserved c =
    let ws = c.args.words.now in
    elim c.match-get.branch [
      | in-None w ↦
          let past : length ws ≤ c.loop-i.i = search rules in
          spared _ ws _ _ c.loop-i-test.true past (sym w.broken-is ∙ c.if-broken.false) ∙ c.loop-i.invariant
      | in-Some w ↦
          let here : w.in-Some.word.now ≡ get_or ws c.loop-i.i 0 = search rules in
          same_kind _ ws _ _ 0 c.loop-i-test.true (omega (arith, w.in-Some.ensures.lookup)) (ap kind (sym here) ∙ eqb-true _ _ (sym w.is_of.ensures ∙ not-false _ (sym w.broken-is ∙ c.if-broken.false)))
          ∙ c.loop-i.invariant
    ]

pub returns-then-words-slots : goal.returns-then-words-slots
returns-then-words-slots c =
    let here : c.loop-i.i ≡ length c.args.slots.now = omega arith in
    let v = rw here at (surplus _ _ _ c.loop-i-test.false (omega arith) ∙ c.loop-i.invariant) in
    record { value = v; lowest = lowest_misplaced c.args.slots.now c.args.words.now _ v; bound = search rules }

pub returns-else-words-slots : goal.returns-else-words-slots
returns-else-words-slots c =
    let v = over _ _ _ c.loop-i-test.false (omega arith) ∙ c.loop-i.invariant in record { value = v; lowest = lowest_misplaced c.args.slots.now c.args.words.now _ v; bound = search rules }
