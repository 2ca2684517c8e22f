use Rattle.std.proofs.Common.{◌≤◌, length, Some, sym, ap, ◌∙◌, arith, rules}
use Rattle.std.proofs.lemmas.Bool.{lt-ltb, le-ltb}
use Rattle.std.proofs.lemmas.Result.{err_from_is_err_and}
use Rattle.survey.specs.Books.{plain_book, surveyed}
use Rattle.listing.proofs.Listed.{no_class, not_graded, too_few, enough, refused, given}
use Rattle.survey.proofs.Outcomes.{was_refused, was_given}
use Rattle.listing.proofs.Tallies.{all_few}
use Rattle.listing.proofs.Writing.{put_first}
use Rattle.listing.proofs.list.misses.Goals as goal

pub returns-in_err-class : goal.returns-in_err-class
returns-in_err-class g c =
    let b = c.args.book.now in
    let n = c.args.class in
    let ws = c.args.words.now in
    let q = g.Q.Quantity.meaning b.quantity in
    let s = g.S.Standard.meaning b.standard in
    let p = err_from_is_err_and c.from_residual.result c.from_residual.ensures.1 in
    let out = refused g.Q.Quantity.meaning g.S.Standard.meaning (plain_book b) n ws _ (no_class q s (surveyed b) n (length ws) (sym c.in_err-class.ensures.0)) in
    rw (p.1, p.2) (record { answer = out.0; words = out.1 })

pub returns-in_err-check_grade : goal.returns-in_err-check_grade
returns-in_err-check_grade g c =
    let b = c.args.book.now in
    let n = c.args.class in
    let ws = c.args.words.now in
    let q = g.Q.Quantity.meaning b.quantity in
    let s = g.S.Standard.meaning b.standard in
    let p = err_from_is_err_and c.from_residual-in_err-check_grade.result c.from_residual-in_err-check_grade.ensures.1 in
    let out = refused g.Q.Quantity.meaning g.S.Standard.meaning (plain_book b) n ws _ (not_graded q s (surveyed b) n (length ws) c.in_ok-class.class _ (sym c.in_ok-class.ensures.0) (was_refused _ tt _ c.in_err-check_grade.ensures)) in
    rw (p.1, p.2) (record { answer = out.0; words = out.1 })

pub overflow_cast-count : goal.overflow_cast-count
overflow_cast-count g c =
    let b = c.args.book.now in
    let few = all_few (g.Q.Quantity.meaning b.quantity) (g.S.Standard.meaning b.standard) b c.in_ok-class.class in
    let small : c.list_all-count.result ≤ 41055 = omega (arith, c.list_all-count.ensures.count, few) in
    search rules

pub returns-then-words-count : goal.returns-then-words-count
returns-then-words-count g c =
    let b = c.args.book.now in
    let n = c.args.class in
    let ws = c.args.words.now in
    let q = g.Q.Quantity.meaning b.quantity in
    let s = g.S.Standard.meaning b.standard in
    let out = refused g.Q.Quantity.meaning g.S.Standard.meaning (plain_book b) n ws _ (too_few q s (surveyed b) n (length ws) c.in_ok-class.class (sym c.in_ok-class.ensures.0) (was_given _ tt _ c.in_ok-check_grade.ensures).0 c.list_all-count.result c.list_all-count.ensures.count (lt-ltb _ _ c.if-words-count.true) ∙ ap Some (sym c.at.ensures)) in
    record { answer = out.0; words = out.1 }

pub returns : goal.returns
returns g c =
    let b = c.args.book.now in
    let n = c.args.class in
    let ws = c.args.words.now in
    let q = g.Q.Quantity.meaning b.quantity in
    let s = g.S.Standard.meaning b.standard in
    let out = given g.Q.Quantity.meaning g.S.Standard.meaning (plain_book b) n ws c.in_ok-class.class _ _ (sym c.in_ok-class.ensures.0) (enough q s (surveyed b) n (length ws) c.in_ok-class.class (sym c.in_ok-class.ensures.0) (was_given _ tt _ c.in_ok-check_grade.ensures).0 c.list_all-count.result c.list_all-count.ensures.count (le-ltb _ _ c.if-words-count.false)) c.list_all.ensures.count (c.list_all.ensures.after ∙ put_first _ ws (omega (arith, c.if-words-count.false, c.list_all-count.ensures.count))) in
    record { answer = out.0; words = out.1 }
