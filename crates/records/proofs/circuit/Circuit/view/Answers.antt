use Rattle.std.proofs.Common.{◌≡◌, true, false, length, get_or, is_some, Ok, Err, sym, ap, ◌∙◌}
use Rattle.std.specs.Option.{option_map, ok_or}
use Rattle.std.proofs.lemmas.List.{take_rest}
use Rattle.records.specs.Ranges.{is_leg_count}
use Rattle.std.proofs.lemmas.Result.{err_from_is_err_and}
use Rattle.records.specs.declared.refusal.Reason.TheVariants.{Range}
use Rattle.records.specs.Circuits.{head_ranged, head_of, circuit_read}
use Rattle.records.specs.Uses.{use_unranged}
use Rattle.records.specs.Refusals.{refusal, unless}
use Rattle.records.proofs.circuit.Circuit.view.Goals as goal
use Rattle.records.proofs.Layouts.{laid, passes}
use Rattle.records.proofs.Circuits.{layout_refused, head_refused, uses_refused, circuit_taken, few_uses, counted, head_read, head_is}

pub returns-in_err-check-clause-head : goal.returns-in_err-check-clause-head
returns-in_err-check-clause-head c =
    let ws = c.args.words.now in
    let p = err_from_is_err_and c.from_residual.result c.from_residual.ensures.1 in
    rw (p.1, p.2) (sym (layout_refused ws (head_of (circuit_read ws)) _ c.in_err-check.ensures))

pub returns-in_err-number-clause-head : goal.returns-in_err-number-clause-head
returns-in_err-number-clause-head c =
    let ws = c.args.words.now in
    let p = err_from_is_err_and c.from_residual-in_err-number.result c.from_residual-in_err-number.ensures.1 in
    let none : head_ranged (get_or ws 0 0) ≡ false = sym (head_read _ _ _ c.head_number.ensures) ∙ ap is_some c.in_err-number.ensures.ok_part in
    let same : c.in_err-number.field-0.0 ≡ c.at.result = cc (c.in_err-number.ensures.value, ap (λ o. ok_or o c.at.result) c.in_err-number.ensures.ok_part) in
    rw (p.1, p.2)
    (ap Err (same ∙ c.at.ensures)
    ∙ sym (head_refused ws (laid _ _ c.in_ok-check.ensures) (head_of (circuit_read ws)) none))

pub check_uses-requires : goal.check_uses-requires
check_uses-requires c = few_uses c.args.words.now (laid _ _ c.in_ok-check.ensures)

pub returns-in_err-check_uses-clause-head : goal.returns-in_err-check_uses-clause-head
returns-in_err-check_uses-clause-head c =
    let ws = c.args.words.now in
    let p = err_from_is_err_and c.from_residual-in_err-check_uses.result c.from_residual-in_err-check_uses.ensures.1 in
    let some : head_ranged (get_or ws 0 0) ≡ true = sym (head_read _ _ _ c.head_number.ensures) ∙ ap is_some c.in_ok-number.ensures.ok_part in
    rw (p.1, p.2) (sym (uses_refused ws (laid _ _ c.in_ok-check.ensures) (head_of (circuit_read ws)) _ some (c.in_err-check_uses.ensures ∙ ap (λ us. unless (refusal Range (use_unranged 2 us)) tt) (take_rest ws 2))))

pub invariant_of-result : goal.invariant_of-result
invariant_of-result c =
    let ws = c.args.words.now in
    record {
      ranged = passes Range _ _ c.in_ok-check_uses.ensures;
      few = ap (λ us. is_leg_count (length us)) (take_rest ws 2) ∙ counted ws (laid _ _ c.in_ok-check.ensures);
    }

pub returns-clause-head : goal.returns-clause-head
returns-clause-head c =
    let ws = c.args.words.now in
    let some : head_ranged (get_or ws 0 0) ≡ true = sym (head_read _ _ _ c.head_number.ensures) ∙ ap is_some c.in_ok-number.ensures.ok_part in
    let uses = sym (ap (use_unranged 2) (take_rest ws 2)) ∙ passes Range _ _ c.in_ok-check_uses.ensures in
    let number = head_is c.in_ok-number.number _ _ (sym (ap (option_map (λ n. n.value)) c.in_ok-number.ensures.ok_part) ∙ c.head_number.ensures) in
    let due = c.of_word-due.ensures in
    sym (circuit_taken ws (laid _ _ c.in_ok-check.ensures) (head_of (circuit_read ws)) some uses ∙ sym (λ i. Ok (record { number = number i; due = due i })))

pub returns-clause-uses : goal.returns-clause-uses
returns-clause-uses c = take_rest c.args.words.now 2
