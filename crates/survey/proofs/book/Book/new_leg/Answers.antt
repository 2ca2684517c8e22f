use Rattle.std.proofs.Common.{is_some, Ok, Err, sym, ap, ◌∙◌}
use Rattle.std.proofs.lemmas.Result.{err_from_is_err_and}
use Rattle.records.specs.Legs.{LegRecord, leg_record, leg_read}
use Rattle.records.specs.Refusals.{first, unless}
use Rattle.quantities.specs.Acceptance.{measure_refusals}
use Rattle.standards.specs.Acceptance.{observation_refusals}
use Rattle.survey.specs.Books.{surveyed}
use Rattle.survey.specs.Numbered.{table}
use Rattle.survey.specs.Standing.{standing_legs}
use Rattle.survey.proofs.Entering.{words_refused, measure_refused, observation_refused, number_taken, leg_entered}
use Rattle.survey.proofs.Outcomes.{was_refused, was_given}
use Rattle.survey.proofs.Tables.{mapped_isSome}
use Rattle.survey.proofs.book.Book.new_leg.Goals as goal

pub returns-in_err-leg : goal.returns-in_err-leg
returns-in_err-leg g c =
    let b = c.args.self.now in
    let ws = c.args.words.now in
    let q = g.Q.Quantity.meaning b.quantity in
    let s = g.S.Standard.meaning b.standard in
    let p = err_from_is_err_and c.from_residual.result c.from_residual.ensures.1 in
    rw (p.1, p.2) (sym (ap (λ o. unless o (leg_read ws)) (words_refused q s (surveyed b) ws _ (was_refused _ (leg_read ws) _ c.in_err-leg.ensures))))

pub returns-in_err-accept_leg : goal.returns-in_err-accept_leg
returns-in_err-accept_leg g c =
    let b = c.args.self.now in
    let ws = c.args.words.now in
    let q = g.Q.Quantity.meaning b.quantity in
    let s = g.S.Standard.meaning b.standard in
    let read = was_given _ (leg_read ws) _ c.in_ok-leg.ensures in
    let p = err_from_is_err_and c.from_residual-in_err-accept_leg.result c.from_residual-in_err-accept_leg.ensures.1 in
    let refused = ap (λ (l : LegRecord). first (measure_refusals q l)) (sym read.1) ∙ was_refused _ tt _ c.in_err-accept_leg.ensures in
    rw (p.1, p.2) (sym (ap (λ o. unless o (leg_read ws)) (measure_refused q s (surveyed b) ws read.0 _ refused)))

pub returns-in_err-accept_leg-2 : goal.returns-in_err-accept_leg-2
returns-in_err-accept_leg-2 g c =
    let b = c.args.self.now in
    let ws = c.args.words.now in
    let q = g.Q.Quantity.meaning b.quantity in
    let s = g.S.Standard.meaning b.standard in
    let read = was_given _ (leg_read ws) _ c.in_ok-leg.ensures in
    let p = err_from_is_err_and c.from_residual-in_err-accept_leg-2.result c.from_residual-in_err-accept_leg-2.ensures.1 in
    let measured = ap (λ (l : LegRecord). first (measure_refusals q l)) (sym read.1) ∙ (was_given _ tt _ c.in_ok-accept_leg.ensures).0 in
    let refused = ap (λ (l : LegRecord). first (observation_refusals s l)) (sym read.1) ∙ was_refused _ tt _ c.in_err-accept_leg-2.ensures.value in
    rw (p.1, p.2) (sym (ap (λ o. unless o (leg_read ws)) (observation_refused q s (surveyed b) ws read.0 measured _ refused)))

pub returns-then-contains_key : goal.returns-then-contains_key
returns-then-contains_key g c =
    let b = c.args.self.now in
    let ws = c.args.words.now in
    let q = g.Q.Quantity.meaning b.quantity in
    let s = g.S.Standard.meaning b.standard in
    let n = c.in_ok-leg.leg.number.value in
    let read = was_given _ (leg_read ws) _ c.in_ok-leg.ensures in
    let measured = ap (λ (l : LegRecord). first (measure_refusals q l)) (sym read.1) ∙ (was_given _ tt _ c.in_ok-accept_leg.ensures).0 in
    let observed = ap (λ (l : LegRecord). first (observation_refusals s l)) (sym read.1) ∙ (was_given _ tt _ c.in_ok-accept_leg-2.ensures.value).0 in
    let stands = mapped_isSome leg_record (table b.legs n) ∙ sym c.contains_key.ensures ∙ c.if-contains_key.true in
    let taken = ap (λ (l : LegRecord). is_some (standing_legs b.legs l.number)) (sym read.1) ∙ stands in
    ap Err c.at.ensures ∙ sym (ap (λ o. unless o (leg_read ws)) (number_taken q s (surveyed b) ws read.0 measured observed taken))

pub returns : goal.returns
returns g c =
    let b = c.args.self.now in
    let ws = c.args.words.now in
    let q = g.Q.Quantity.meaning b.quantity in
    let s = g.S.Standard.meaning b.standard in
    let n = c.in_ok-leg.leg.number.value in
    let read = was_given _ (leg_read ws) _ c.in_ok-leg.ensures in
    let measured = ap (λ (l : LegRecord). first (measure_refusals q l)) (sym read.1) ∙ (was_given _ tt _ c.in_ok-accept_leg.ensures).0 in
    let observed = ap (λ (l : LegRecord). first (observation_refusals s l)) (sym read.1) ∙ (was_given _ tt _ c.in_ok-accept_leg-2.ensures.value).0 in
    let free = mapped_isSome leg_record (table b.legs n) ∙ sym c.contains_key.ensures ∙ c.if-contains_key.false in
    let unused = ap (λ (l : LegRecord). is_some (standing_legs b.legs l.number)) (sym read.1) ∙ free in
    ap Ok read.1 ∙ sym (ap (λ o. unless o (leg_read ws)) (leg_entered q s (surveyed b) ws read.0 measured observed unused))
