use Rattle.std.proofs.Common.{rules, ◌≡◌, not, length, Err, sym, ap, ◌∙◌}
use Rattle.std.proofs.lemmas.Bool.{eq-eqb, ne_eqb, false≢true}
use Rattle.records.specs.Refusals.{unless}
use Rattle.survey.specs.Books.{surveyed}
use Rattle.grading.proofs.Judging.{no_leg, some_leg}
use Rattle.survey.proofs.Using.{any_is}
use Rattle.grading.proofs.judge.check_grade.Goals as goal

pub returns-then-is_empty : goal.returns-then-is_empty
returns-then-is_empty g c =
    let b = c.args.book.now in
    let q = g.Q.Quantity.meaning b.quantity in
    let s = g.S.Standard.meaning b.standard in
    let none = any_is b ∙ ap not (eq-eqb (length b.legs.entries) 0 (c.is_empty.ensures.0 c.if-is_empty.true)) in
    ap Err c.at.ensures ∙ sym (ap (λ o. unless o tt) (no_leg q s (surveyed b) none))

pub returns : goal.returns
returns g c =
    let b = c.args.book.now in
    let q = g.Q.Quantity.meaning b.quantity in
    let s = g.S.Standard.meaning b.standard in
    let any = any_is b ∙ ap not (ne_eqb (length b.legs.entries) 0 (λ e. false≢true (sym c.if-is_empty.false ∙ c.is_empty.ensures.1 e))) in
    let told : c.map.result ≡ c.loose_leg.result = search rules in
    c.refuse.ensures ∙ sym (ap (λ o. unless o tt) (some_leg q s (surveyed b) c.map.result any (sym (told ∙ c.loose_leg.ensures))))
