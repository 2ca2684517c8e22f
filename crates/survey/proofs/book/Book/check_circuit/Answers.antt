use Rattle.std.proofs.Common.{[], map, is_some, None, Err, sym, ap, ◌∙◌}
use Rattle.std.proofs.lemmas.Result.{err_from_is_err_and}
use Rattle.records.specs.Circuits.{HeadRecord, circuit_record, circuit_read, head_of, use_read}
use Rattle.records.specs.Refusals.{first, unless}
use Rattle.quantities.specs.Acceptance.{due_refusals}
use Rattle.standards.specs.Acceptance.{form_refusals}
use Rattle.plainbook.specs.Findings.{form}
use Rattle.plainbook.specs.Refusals.{chain_refusals}
use Rattle.plainbook.specs.Surveys.{runs}
use Rattle.survey.specs.Books.{surveyed}
use Rattle.survey.specs.Numbered.{table}
use Rattle.survey.specs.Standing.{standing_circuits}
use Rattle.survey.proofs.Joining.{words_refused, number_taken, due_refused, chain_refused, to_form}
use Rattle.survey.proofs.Outcomes.{was_refused, was_given}
use Rattle.survey.proofs.Tables.{mapped_isSome}
use Rattle.survey.proofs.book.Book.check_circuit.Goals as goal

pub returns-in_err-view : goal.returns-in_err-view
returns-in_err-view g c =
    let b = c.args.self.now in
    let ws = c.args.words.now in
    let q = g.Q.Quantity.meaning b.quantity in
    let s = g.S.Standard.meaning b.standard in
    let p = err_from_is_err_and c.from_residual.result c.from_residual.ensures.1 in
    rw (p.1, p.2) (sym (ap (λ o. unless o tt) (words_refused q s (surveyed b) ws _ (was_refused _ (head_of (circuit_read ws)) _ c.in_err-view.ensures.head))))

pub returns-then-contains_key : goal.returns-then-contains_key
returns-then-contains_key g c =
    let b = c.args.self.now in
    let ws = c.args.words.now in
    let q = g.Q.Quantity.meaning b.quantity in
    let s = g.S.Standard.meaning b.standard in
    let n = c.in_ok-view.view.head.number.value in
    let read = was_given _ (head_of (circuit_read ws)) _ c.in_ok-view.ensures.head in
    let stands = mapped_isSome circuit_record (table b.circuits n) ∙ sym c.contains_key.ensures ∙ c.if-contains_key.true in
    let taken = ap (λ (h : HeadRecord). is_some (standing_circuits b.circuits h.number)) (sym read.1) ∙ stands in
    ap Err c.at.ensures ∙ sym (ap (λ o. unless o tt) (number_taken q s (surveyed b) ws read.0 taken))

pub returns-in_err-accept_due : goal.returns-in_err-accept_due
returns-in_err-accept_due g c =
    let b = c.args.self.now in
    let ws = c.args.words.now in
    let q = g.Q.Quantity.meaning b.quantity in
    let s = g.S.Standard.meaning b.standard in
    let n = c.in_ok-view.view.head.number.value in
    let read = was_given _ (head_of (circuit_read ws)) _ c.in_ok-view.ensures.head in
    let absent = mapped_isSome circuit_record (table b.circuits n) ∙ sym c.contains_key.ensures ∙ c.if-contains_key.false in
    let free = ap (λ (h : HeadRecord). is_some (standing_circuits b.circuits h.number)) (sym read.1) ∙ absent in
    let p = err_from_is_err_and c.from_residual-in_err-accept_due.result c.from_residual-in_err-accept_due.ensures.1 in
    let refused = ap (λ (h : HeadRecord). first (due_refusals q h.due)) (sym read.1) ∙ was_refused _ tt _ c.in_err-accept_due.ensures in
    rw (p.1, p.2) (sym (ap (λ o. unless o tt) (due_refused q s (surveyed b) ws read.0 free _ refused)))

pub returns-in_err-form : goal.returns-in_err-form
returns-in_err-form g c =
    let b = c.args.self.now in
    let ws = c.args.words.now in
    let q = g.Q.Quantity.meaning b.quantity in
    let s = g.S.Standard.meaning b.standard in
    let n = c.in_ok-view.view.head.number.value in
    let read = was_given _ (head_of (circuit_read ws)) _ c.in_ok-view.ensures.head in
    let absent = mapped_isSome circuit_record (table b.circuits n) ∙ sym c.contains_key.ensures ∙ c.if-contains_key.false in
    let free = ap (λ (h : HeadRecord). is_some (standing_circuits b.circuits h.number)) (sym read.1) ∙ absent in
    let due = ap (λ (h : HeadRecord). first (due_refusals q h.due)) (sym read.1) ∙ (was_given _ tt _ c.in_ok-accept_due.ensures).0 in
    let p = err_from_is_err_and c.from_residual-in_err-form.result c.from_residual-in_err-form.ensures.1 in
    let refused = was_refused (first (chain_refusals (surveyed b).legs [] None 2 (map use_read (c.in_ok-view.view.uses.words.now)))) _ _ c.in_err-form.ensures in
    rw (p.1, p.2)
    (sym (ap (λ o. unless o tt) (chain_refused q s (surveyed b) ws read.0 free due _ (ap (λ us. first (chain_refusals (surveyed b).legs [] None 2 (map use_read us))) (sym c.in_ok-view.ensures.uses) ∙ refused))))

pub returns : goal.returns
returns g c =
    let b = c.args.self.now in
    let ws = c.args.words.now in
    let q = g.Q.Quantity.meaning b.quantity in
    let s = g.S.Standard.meaning b.standard in
    let n = c.in_ok-view.view.head.number.value in
    let read = was_given _ (head_of (circuit_read ws)) _ c.in_ok-view.ensures.head in
    let absent = mapped_isSome circuit_record (table b.circuits n) ∙ sym c.contains_key.ensures ∙ c.if-contains_key.false in
    let free = ap (λ (h : HeadRecord). is_some (standing_circuits b.circuits h.number)) (sym read.1) ∙ absent in
    let due = ap (λ (h : HeadRecord). first (due_refusals q h.due)) (sym read.1) ∙ (was_given _ tt _ c.in_ok-accept_due.ensures).0 in
    let given = was_given (first (chain_refusals (surveyed b).legs [] None 2 (map use_read (c.in_ok-view.view.uses.words.now)))) _ _ c.in_ok-form.ensures in
    let chain = ap (λ us. first (chain_refusals (surveyed b).legs [] None 2 (map use_read us))) (sym c.in_ok-view.ensures.uses) ∙ given.0 in
    let shape = given.1 ∙ ap (λ us. form (runs (surveyed b).legs (map use_read us))) c.in_ok-view.ensures.uses in
    c.accept_form.ensures.value ∙ ap (λ f. unless (first (form_refusals s f)) tt) shape ∙ sym (ap (λ o. unless o tt) (to_form q s (surveyed b) ws read.0 free due chain))
