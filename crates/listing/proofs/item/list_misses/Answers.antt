use Rattle.std.proofs.Common.{◌≡◌, suc, ◌+◌, ◌<◌, ◌≤◌, ◌∷◌, length, sym, ap, ◌∙◌, ap₂, arith}
use Rattle.plainbook.specs.Misses.{miss_word}
use Rattle.listing.specs.Writing.{place_number, put}
use Rattle.listing.proofs.Listing.{left, next_met, next_missed, none_left, all_left}
use Rattle.listing.proofs.Writing.{put_none, put_one, put_past}
use Rattle.listing.proofs.item.list_misses.Goals as goal
use Rattle.listing.proofs.item.list_misses.Goals.{then-not-contains, then-at-words, else-at-words, else-not-contains}

pub loop-rule-preserved : goal.loop-rule-preserved
loop-rule-preserved g c =
    let table = g.F.Finding.table (g.S.Standard.meaning c.args.standard.now) in
    let k = c.args.asked.class in
    let place = place_number c.args.asked.place in
    let f = c.args.finding.now in
    let rule = c.loop-rule.rule in
    let at = c.loop-rule.at in
    let ws = c.loop-rule.words in
    let here : rule < table.count = omega (arith, c.rules-rule-end.ensures, c.loop-rule-test.true) in
    let rest = left table k place c.args.asked.item f (rule + 1) in
    let asked = sym (c.classes.ensures k) ∙ sym c.contains.ensures in
    elim c.if-not-contains.branch [
      | then-not-contains w ↦
          let step = next_missed table k place c.args.asked.item f rule here (asked ∙ w.if-not-contains.true) in
          let wrote : put (at + 1) rest w.if-at-words.words ≡ put at (miss_word k place (suc rule) c.args.asked.item ∷ rest) ws =
          elim w.if-at-words.branch [
            | then-at-words v ↦
                ap (put (at + 1) rest) v.words-is
                ∙ put_one at _ rest ws (omega (arith, v.if-at-words.true))
                ∙ ap (λ m. put at (m ∷ rest) ws) v.word.ensures
            | else-at-words v ↦ ap (put (at + 1) rest) v.words-is ∙ put_past at _ rest ws (omega (arith, v.if-at-words.false))
          ] in (
            omega (arith, ap length step, w.at-is, c.loop-rule.invariant.0),
            omega (arith, w.at-is, c.loop-rule.invariant.1),
            ap₂ (λ at ws. put at rest ws) w.at-is w.words-is ∙ wrote ∙ ap (λ new. put at new ws) (sym step) ∙ c.loop-rule.invariant.2,
          )
      | else-not-contains w ↦
          let step = next_met table k place c.args.asked.item f rule here (asked ∙ w.if-not-contains.false) in (
            omega (arith, ap length step, w.at-is, c.loop-rule.invariant.0),
            omega (arith, w.at-is, c.loop-rule.invariant.1),
            ap₂ (λ at ws. put at rest ws) w.at-is w.words-is ∙ ap (λ new. put at new ws) (sym step) ∙ c.loop-rule.invariant.2,
          )
    ]

pub returns : goal.returns
returns g c =
    let table = g.F.Finding.table (g.S.Standard.meaning c.args.standard.now) in
    let k = c.args.asked.class in
    let place = place_number c.args.asked.place in
    let f = c.args.finding.now in
    let rule = c.loop-rule.rule in
    let past : table.count ≤ rule = omega (arith, c.rules-rule-end.ensures, c.loop-rule-test.false) in
    let none = none_left table k place c.args.asked.item f rule past in
    let all = all_left table k place c.args.asked.item f in
    record {
      end = omega (arith, c.loop-rule.invariant.0, ap length none, ap length all);
      after =
          sym (put_none c.loop-rule.at c.loop-rule.words)
          ∙ ap (λ new. put c.loop-rule.at new c.loop-rule.words) (sym none)
          ∙ c.loop-rule.invariant.2
          ∙ ap (λ new. put c.args.start new c.args.words.now) all;
    }
