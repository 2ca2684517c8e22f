use Rattle.std.proofs.Common.{is_ok, Ok, map, sym, ap, ◌∙◌}
use Rattle.std.proofs.lemmas.Result.{err_from_is_err_and}
use Rattle.records.specs.Circuits.{circuit_read, use_read}
use Rattle.records.specs.Refusals.{unless}
use Rattle.records.proofs.circuit.Circuit.decode.Goals as goal
use Rattle.records.proofs.Circuits.{seen_err, seen_ok, least_unranged}

pub returns-in_err-view : goal.returns-in_err-view
returns-in_err-view c =
    let ws = c.args.words.now in
    let p = err_from_is_err_and c.from_residual.result c.from_residual.ensures.1 in
    record { gives = rw (p.1, p.2) (ap (λ o. unless o (circuit_read ws)) (seen_err _ _ _ c.in_err-view.ensures.head)); least = least_unranged }

pub returns-in_err-of : goal.returns-in_err-of
returns-in_err-of c =
    let ws = c.args.words.now in
    let p = err_from_is_err_and c.from_residual-in_err-of.result c.from_residual-in_err-of.ensures.1 in
    record { gives = rw (p.1, p.2) (ap (λ o. is_ok (unless o (circuit_read ws))) (seen_ok _ _ _ c.in_ok-view.ensures.head).0); least = least_unranged }

pub returns : goal.returns
returns c =
    let ws = c.args.words.now in
    let ok = seen_ok _ _ _ c.in_ok-view.ensures.head in
    record {
      gives = ap (λ o. unless o (circuit_read ws)) ok.0 ∙ ap Ok (sym (c.in_ok-of.ensures ∙ (λ i. record { number = (ok.1 i).number; due = (ok.1 i).due; legs = map use_read (c.in_ok-view.ensures.uses i) })));
      least = least_unranged;
    }
