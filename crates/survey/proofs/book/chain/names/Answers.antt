use Rattle.std.proofs.Common.{rules, tests, ◌%◌, eqb, sym, ◌∙◌}
use Rattle.std.proofs.lemmas.Iterator.{YieldsList-from_slice}
use Rattle.std.proofs.lemmas.Iterator.Search.{any_from_yields_List}
use Rattle.survey.proofs.Naming.{named_by_byte}
use Rattle.survey.proofs.book.chain.names.Goals as goal

pub returns : goal.returns
returns c =
    let ws = c.args.words.now in
    any_from_yields_List (λ w. eqb (w % 256) c.args.leg) _ _ c.any.result c.any.ensures.ran (YieldsList-from_slice ws c.iter.ensures.rest) (λ x b q k. search (rules, tests))
    ∙ sym (named_by_byte c.args.leg ws)
