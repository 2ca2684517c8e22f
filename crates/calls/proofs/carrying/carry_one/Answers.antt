use Rattle.std.proofs.Common.{rules, ◌≡◌, vec_items, sym, ◌∙◌, subst}
use Rattle.plainbook.specs.Steps.{step, entering, joining}
use Rattle.survey.specs.Books.{plain_book, Answers, is_done}
use Rattle.calls.specs.Carrying.{Carried, plain_call, reply_seen, outcome_seen}
use Rattle.calls.proofs.Ways.{fault_mapped, seen_as, words_kept, carried, held_kept}
use Rattle.calls.proofs.carrying.carry_one.Goals as goal

pub returns-in-Open : goal.returns-in-Open
returns-in-Open g c =
    let before = plain_book c.args.book.now in
    subst (λ k. (reply_seen c.done.result ≡ outcome_seen (step g.Q.Quantity.meaning g.S.Standard.meaning (plain_call k) before)) × (plain_book c.open.result ≡ (step g.Q.Quantity.meaning g.S.Standard.meaning (plain_call k) before).held))
    (sym c.in-Open.is) (c.done.ensures, c.open.ensures)

pub returns-in-StrikeLeg : goal.returns-in-StrikeLeg
returns-in-StrikeLeg g c =
    let before = plain_book c.args.book.now in
    subst (λ k. (reply_seen c.done-in-StrikeLeg.result ≡ outcome_seen (step g.Q.Quantity.meaning g.S.Standard.meaning (plain_call k) before)) × (plain_book c.strike_leg.new.self ≡ (step g.Q.Quantity.meaning g.S.Standard.meaning (plain_call k) before).held))
    (sym c.in-StrikeLeg.is) (c.done-in-StrikeLeg.ensures ∙ seen_as c.strike_leg.ensures.0 (sym (words_kept before _ _ _ _)), c.strike_leg.ensures.1)

pub returns-in-StrikeCircuit : goal.returns-in-StrikeCircuit
returns-in-StrikeCircuit g c =
    let before = plain_book c.args.book.now in
    subst (λ k. (reply_seen c.done-in-StrikeCircuit.result ≡ outcome_seen (step g.Q.Quantity.meaning g.S.Standard.meaning (plain_call k) before)) × (plain_book c.strike_circuit.new.self ≡ (step g.Q.Quantity.meaning g.S.Standard.meaning (plain_call k) before).held))
    (sym c.in-StrikeCircuit.is) (c.done-in-StrikeCircuit.ensures ∙ seen_as c.strike_circuit.ensures.0 (sym (words_kept before _ _ _ _)), c.strike_circuit.ensures.1)

pub returns-in-Enter : goal.returns-in-Enter
returns-in-Enter g c =
    let before = plain_book c.args.book.now in
    let ws = vec_items c.in-Enter.words in
    let asked = subst (λ ws. Answers is_done (step g.Q.Quantity.meaning g.S.Standard.meaning (entering ws) before) before (plain_book c.enter-res.new.self) c.enter-res.result) c.deref.ensures.value c.enter-res.ensures in
    subst (λ k. Carried (step g.Q.Quantity.meaning g.S.Standard.meaning (plain_call k) before) before (plain_book c.enter-res.new.self) c.reply.result) (sym c.in-Enter.is)
    (carried is_done (step g.Q.Quantity.meaning g.S.Standard.meaning (entering ws) before) before (plain_book c.enter-res.new.self) ws c.enter-res.result c.reply.result asked (words_kept before ws _ _ _) (c.reply.ensures ∙ fault_mapped is_done _ (λ x y e. search rules) ws _ _ c.map.ensures.cases))

pub returns-in-Join : goal.returns-in-Join
returns-in-Join g c =
    let before = plain_book c.args.book.now in
    let ws = vec_items c.in-Join.words in
    let asked = subst (λ ws. Answers is_done (step g.Q.Quantity.meaning g.S.Standard.meaning (joining ws) before) before (plain_book c.join-res.new.self) c.join-res.result) c.deref-in-Join.ensures.value c.join-res.ensures in
    subst (λ k. Carried (step g.Q.Quantity.meaning g.S.Standard.meaning (plain_call k) before) before (plain_book c.join-res.new.self) c.reply-in-Join.result) (sym c.in-Join.is)
    (carried is_done (step g.Q.Quantity.meaning g.S.Standard.meaning (joining ws) before) before (plain_book c.join-res.new.self) ws c.join-res.result c.reply-in-Join.result asked (words_kept before ws _ _ _) (c.reply-in-Join.ensures ∙ fault_mapped is_done _ (λ x y e. search rules) ws _ _ c.map-in-Join.ensures.cases))

pub returns-in-Misses : goal.returns-in-Misses
returns-in-Misses g c =
    let before = plain_book c.args.book.now in
    subst (λ k. (reply_seen c.listed.result ≡ outcome_seen (step g.Q.Quantity.meaning g.S.Standard.meaning (plain_call k) before)) × (before ≡ (step g.Q.Quantity.meaning g.S.Standard.meaning (plain_call k) before).held))
    (sym c.in-Misses.is) (c.listed.ensures, sym (held_kept before (vec_items c.in-Misses.words) _ _ _))
