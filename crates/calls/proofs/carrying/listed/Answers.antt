use Rattle.std.proofs.Common.{rules, ◌≡◌, length, ap, ◌∙◌, arith}
use Rattle.std.proofs.lemmas.List.{with_items_is}
use Rattle.records.specs.Refusals.{seen}
use Rattle.plainbook.specs.Steps.{step, listing}
use Rattle.survey.specs.Books.{plain_book}
use Rattle.listing.specs.Answered.{is_listed}
use Rattle.calls.specs.Carrying.{plain_answer}
use Rattle.calls.proofs.Ways.{seen_as, seen_mapped}
use Rattle.calls.proofs.carrying.listed.Goals as goal

pub returns : goal.returns
returns g c =
    let before = plain_book c.args.book.now in
    let long : length c.misses.new.words ≡ c.args.words.len = omega (arith, c.misses.auto.words, ap length c.deref_mut.ensures.value, c.args.words.ok.0) in
    let shown : seen plain_answer c.map-answer.result ≡ seen is_listed c.misses.result = seen_mapped is_listed _ (λ x y e. search rules) _ _ c.map-answer.ensures.cases in
    seen_as (shown ∙ c.misses.ensures.answer.0 ∙ ap (λ ws. (step g.Q.Quantity.meaning g.S.Standard.meaning (listing c.args.class ws) before).answer) c.deref_mut.ensures.value)
    (with_items_is c.args.words c.misses.new.words long ∙ c.misses.ensures.words ∙ ap (λ ws. (step g.Q.Quantity.meaning g.S.Standard.meaning (listing c.args.class ws) before).words) c.deref_mut.ensures.value)
