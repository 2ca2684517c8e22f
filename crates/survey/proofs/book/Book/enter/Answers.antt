use Rattle.std.proofs.Common.{Some, refl}
use Rattle.std.proofs.lemmas.Result.{err_from_is_err_and}
use Rattle.std.proofs.lemmas.Bool.{eq-eqb}
use Rattle.records.specs.Legs.{leg_record, leg_read}
use Rattle.records.specs.Refusals.{first}
use Rattle.plainbook.specs.Refusals.{enter_refusals}
use Rattle.plainbook.specs.Steps.{done, with_leg}
use Rattle.survey.specs.Books.{plain_book, surveyed, is_done}
use Rattle.survey.specs.Standing.{own_leg}
use Rattle.survey.proofs.Entering.{entered_legs, entered_chained}
use Rattle.survey.proofs.Outcomes.{refuses, answers, lacks, was_refused, was_given}
use Rattle.survey.proofs.Soundness.{read_unchanged}
use Rattle.survey.proofs.Tables.{numbered_inserted, every_inserted, passes}
use Rattle.survey.proofs.book.Book.enter.Goals as goal

pub returns-in_err-leg : goal.returns-in_err-leg
returns-in_err-leg g c =
    let b = c.args.self.now in
    let ws = c.args.words.now in
    let q = g.Q.Quantity.meaning b.quantity in
    let s = g.S.Standard.meaning b.standard in
    let p = err_from_is_err_and c.from_residual.result c.from_residual.ensures.1 in
    rw (p.1, p.2)
    (refuses is_done (plain_book b) ws done (with_leg (surveyed b) (leg_read ws).number (Some (leg_read ws))) ws (first (enter_refusals q s (surveyed b) ws)) _
    (was_refused _ (leg_read ws) _ c.in_err-leg.ensures))

pub invariant_of-self : goal.invariant_of-self
invariant_of-self g c =
    let b = c.args.self.now in
    let ws = c.args.words.now in
    let q = g.Q.Quantity.meaning b.quantity in
    let s = g.S.Standard.meaning b.standard in
    let l = c.in_ok-leg.leg in
    let n = l.number.value in
    let given = was_given _ (leg_read ws) _ c.in_ok-leg.ensures in
    let after = c.insert.new.self in
    let inserted = c.insert.ensures in
    record {
      legs_numbered = numbered_inserted b.legs after n l inserted.ordered 128 _ inserted.updates inserted.err b.legs_numbered (passes _ l.number.ranged);
      circuits_numbered = b.circuits_numbered;
      own_legs = every_inserted b.legs after n l inserted.ordered own_leg _ inserted.updates inserted.err b.own_legs (passes _ (eq-eqb n n refl));
      own_circuits = b.own_circuits;
      chained = entered_chained q s b ws l after given.1 _ inserted.updates inserted.err given.0;
    }

pub returns-in_err-insert : goal.returns-in_err-insert
returns-in_err-insert g c =
    let b = c.args.self.now in
    let ws = c.args.words.now in
    let q = g.Q.Quantity.meaning b.quantity in
    let s = g.S.Standard.meaning b.standard in
    let p = err_from_is_err_and c.from_residual-in_err-insert.result c.from_residual-in_err-insert.ensures.1 in
    let legs = read_unchanged leg_record b.legs c.insert.new.self c.in_err-insert.ensures.err in
    rw (p.1, p.2)
    (lacks is_done (plain_book b) ws done (with_leg (surveyed b) (leg_read ws).number (Some (leg_read ws))) ws (first (enter_refusals q s (surveyed b) ws)) _
    (was_given _ (leg_read ws) _ c.in_ok-leg.ensures).0
    (λ i. record { quantity = b.quantity; standard = b.standard; survey = record { legs = legs i; circuits = (surveyed b).circuits } }))

pub returns : goal.returns
returns g c =
    let b = c.args.self.now in
    let ws = c.args.words.now in
    let q = g.Q.Quantity.meaning b.quantity in
    let s = g.S.Standard.meaning b.standard in
    let given = was_given _ (leg_read ws) _ c.in_ok-leg.ensures in
    let legs = entered_legs q s b ws c.in_ok-leg.leg c.insert.new.self given.1 c.in_ok-insert.ensures.updates in
    answers is_done (plain_book b) ws done (with_leg (surveyed b) (leg_read ws).number (Some (leg_read ws))) ws (first (enter_refusals q s (surveyed b) ws)) tt _
    given.0 refl
    (λ i. record { quantity = b.quantity; standard = b.standard; survey = record { legs = legs i; circuits = (surveyed b).circuits } })
