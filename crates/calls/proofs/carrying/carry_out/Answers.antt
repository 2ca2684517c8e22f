use Rattle.std.proofs.Common.{length, vec_items, sym, ap, subst, arith}
use Rattle.std.specs.Vec.Iter.{into_iter_items}
use Rattle.plainbook.proofs.Agreement.{promise}
use Rattle.survey.specs.Books.{plain_book}
use Rattle.calls.specs.Carrying.{CarriedOut}
use Rattle.calls.proofs.Ways.{SoFar, at_start, one_more, stopped}
use Rattle.calls.proofs.carrying.carry_out.Goals as goal

pub returns-in_default : goal.returns-in_default
returns-in_default g c =
    let terms = g.Q.Quantity.meaning in
    let rules = g.S.Standard.meaning in
    let before = plain_book c.args.book.now in
    record {
      calls =
          stopped terms rules (vec_items c.args.calls) before before (vec_items c.new.result) (vec_items c.args.calls)
          (subst (λ rs. SoFar terms rules (vec_items c.args.calls) before before rs (vec_items c.args.calls)) (sym c.new.ensures.items) (at_start terms rules (vec_items c.args.calls) before));
      promise = promise terms rules;
    }

pub loop-call-init : goal.loop-call-init
loop-call-init g c =
    let terms = g.Q.Quantity.meaning in
    let rules = g.S.Standard.meaning in
    let before = plain_book c.args.book.now in
    let calls = into_iter_items c.into_iter-call-iterator.result in
    let made = c.in-Ok.ensures in (
      tt,
      tt,
      subst (λ rs. SoFar terms rules calls before before rs calls) (sym made.items) (at_start terms rules calls before),
      omega (arith, made.len, made.capacity, c.len.ensures, ap length c.into_iter-call-iterator.ensures.into_iter_gives.0, c.args.calls.ok.0),
    )

pub returns-in_default-carry_one : goal.returns-in_default-carry_one
returns-in_default-carry_one g c =
    let terms = g.Q.Quantity.meaning in
    let rules = g.S.Standard.meaning in
    let before = plain_book c.args.book.now in
    let calls = into_iter_items c.into_iter-call-iterator.result in
    record {
      calls =
          subst (λ cs. CarriedOut terms rules cs before (plain_book c.carry_one.new.book) (vec_items c.loop-call.replies)) c.into_iter-call-iterator.ensures.into_iter_gives.0
          (subst (λ h. CarriedOut terms rules calls before h (vec_items c.loop-call.replies)) (sym c.in_default-carry_one.ensures.1)
          (stopped terms rules calls before (plain_book c.loop-call.book) (vec_items c.loop-call.replies) (into_iter_items c.loop-call.call-iterator) c.loop-call.invariant.2));
      promise = promise terms rules;
    }

pub push_reserved-requires : goal.push_reserved-requires
push_reserved-requires g c = omega (arith, c.loop-call.invariant.3, ap length c.in-Some.ensures.steps.0)

pub loop-call-preserved : goal.loop-call-preserved
loop-call-preserved g c =
    let terms = g.Q.Quantity.meaning in
    let rules = g.S.Standard.meaning in
    let before = plain_book c.args.book.now in
    let calls = into_iter_items c.into_iter-call-iterator.result in
    let turn = c.in-Some.ensures.steps.0 in
    let so = subst (λ left. SoFar terms rules calls before (plain_book c.loop-call.book) (vec_items c.loop-call.replies) left) turn c.loop-call.invariant.2 in
    let done = c.in-Ok-carry_one.ensures in (
      tt,
      tt,
      one_more terms rules calls before (plain_book c.loop-call.book) (plain_book c.carry_one.new.book) (vec_items c.loop-call.replies) (vec_items c.push_reserved.new.self) c.in-Some.call (into_iter_items c.next.new.self) c.in-Ok-carry_one.reply so done.0 done.1
          c.push_reserved.ensures.items,
      omega (arith, c.loop-call.invariant.3, ap length turn, c.push_reserved.ensures.len, c.push_reserved.ensures.capacity),
    )

pub returns : goal.returns
returns g c =
    let terms = g.Q.Quantity.meaning in
    let rules = g.S.Standard.meaning in
    let before = plain_book c.args.book.now in
    let calls = into_iter_items c.into_iter-call-iterator.result in
    record {
      calls =
          subst (λ cs. CarriedOut terms rules cs before (plain_book c.loop-call.book) (vec_items c.loop-call.replies)) c.into_iter-call-iterator.ensures.into_iter_gives.0
          (stopped terms rules calls before (plain_book c.loop-call.book) (vec_items c.loop-call.replies) (into_iter_items c.loop-call.call-iterator) c.loop-call.invariant.2);
      promise = promise terms rules;
    }
