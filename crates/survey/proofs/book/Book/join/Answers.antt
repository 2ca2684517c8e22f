use Rattle.std.proofs.Common.{Some, refl}
use Rattle.std.proofs.lemmas.Result.{err_from_is_err_and}
use Rattle.std.proofs.lemmas.Bool.{eq-eqb}
use Rattle.records.specs.Circuits.{circuit_record, circuit_read}
use Rattle.records.specs.Refusals.{first}
use Rattle.plainbook.specs.Refusals.{join_refusals}
use Rattle.plainbook.specs.Steps.{done, with_circuit}
use Rattle.survey.specs.Books.{plain_book, surveyed, is_done}
use Rattle.survey.specs.Standing.{own_circuit}
use Rattle.survey.proofs.Joining.{decode_lacks, decode_gives, words_pass, joined_circuits, joined_chained}
use Rattle.survey.proofs.Outcomes.{refuses, answers, lacks, was_refused, was_given}
use Rattle.survey.proofs.Soundness.{read_unchanged}
use Rattle.survey.proofs.Tables.{numbered_inserted, every_inserted, passes}
use Rattle.survey.proofs.book.Book.join.Goals as goal

pub returns-in_err-check_circuit : goal.returns-in_err-check_circuit
returns-in_err-check_circuit g c =
    let b = c.args.self.now in
    let ws = c.args.words.now in
    let q = g.Q.Quantity.meaning b.quantity in
    let s = g.S.Standard.meaning b.standard in
    let p = err_from_is_err_and c.from_residual.result c.from_residual.ensures.1 in
    rw (p.1, p.2)
    (refuses is_done (plain_book b) ws done (with_circuit (surveyed b) (circuit_read ws).number (Some (circuit_read ws))) ws (first (join_refusals q s (surveyed b) ws)) _
    (was_refused _ tt _ c.in_err-check_circuit.ensures))

pub returns-in_err-circuit : goal.returns-in_err-circuit
returns-in_err-circuit g c =
    let b = c.args.self.now in
    let ws = c.args.words.now in
    let q = g.Q.Quantity.meaning b.quantity in
    let s = g.S.Standard.meaning b.standard in
    let none = (was_given (first (join_refusals q s (surveyed b) ws)) tt _ c.in_ok-check_circuit.ensures).0 in
    let read = words_pass q s (surveyed b) ws none in
    let joined = with_circuit (surveyed b) (circuit_read ws).number (Some (circuit_read ws)) in
    let p = err_from_is_err_and c.from_residual-in_err-circuit.result c.from_residual-in_err-circuit.ensures.1 in
    let memory = decode_lacks ws read _ c.in_err-circuit.ensures.gives in
    rw (p.1, p.2, memory) (lacks is_done (plain_book b) ws done joined ws (first (join_refusals q s (surveyed b) ws)) _ none refl)

pub invariant_of-self : goal.invariant_of-self
invariant_of-self g c =
    let b = c.args.self.now in
    let ws = c.args.words.now in
    let q = g.Q.Quantity.meaning b.quantity in
    let s = g.S.Standard.meaning b.standard in
    let none = (was_given (first (join_refusals q s (surveyed b) ws)) tt _ c.in_ok-check_circuit.ensures).0 in
    let read = words_pass q s (surveyed b) ws none in
    let joined = with_circuit (surveyed b) (circuit_read ws).number (Some (circuit_read ws)) in
    let circuit = c.in_ok-circuit.circuit in
    let n = circuit.number.value in
    let is = decode_gives ws read circuit c.in_ok-circuit.ensures.gives in
    let after = c.insert.new.self in
    let inserted = c.insert.ensures in
    let numbered = numbered_inserted b.circuits after n circuit inserted.ordered 32 _ inserted.updates inserted.err b.circuits_numbered (passes _ circuit.number.ranged) in
    record {
      legs_numbered = b.legs_numbered;
      circuits_numbered = numbered;
      own_legs = b.own_legs;
      own_circuits = every_inserted b.circuits after n circuit inserted.ordered own_circuit _ inserted.updates inserted.err b.own_circuits (passes _ (eq-eqb n n refl));
      chained = joined_chained q s b ws circuit after is _ inserted.updates inserted.err numbered none;
    }

pub returns-in_err-insert : goal.returns-in_err-insert
returns-in_err-insert g c =
    let b = c.args.self.now in
    let ws = c.args.words.now in
    let q = g.Q.Quantity.meaning b.quantity in
    let s = g.S.Standard.meaning b.standard in
    let none = (was_given (first (join_refusals q s (surveyed b) ws)) tt _ c.in_ok-check_circuit.ensures).0 in
    let read = words_pass q s (surveyed b) ws none in
    let joined = with_circuit (surveyed b) (circuit_read ws).number (Some (circuit_read ws)) in
    let p = err_from_is_err_and c.from_residual-in_err-insert.result c.from_residual-in_err-insert.ensures.1 in
    let circuits = read_unchanged circuit_record b.circuits c.insert.new.self c.in_err-insert.ensures.err in
    rw (p.1, p.2)
    (lacks is_done (plain_book b) ws done joined ws (first (join_refusals q s (surveyed b) ws)) _ none
    (λ i. record { quantity = b.quantity; standard = b.standard; survey = record { legs = (surveyed b).legs; circuits = circuits i } }))

pub returns : goal.returns
returns g c =
    let b = c.args.self.now in
    let ws = c.args.words.now in
    let q = g.Q.Quantity.meaning b.quantity in
    let s = g.S.Standard.meaning b.standard in
    let none = (was_given (first (join_refusals q s (surveyed b) ws)) tt _ c.in_ok-check_circuit.ensures).0 in
    let read = words_pass q s (surveyed b) ws none in
    let joined = with_circuit (surveyed b) (circuit_read ws).number (Some (circuit_read ws)) in
    let circuit = c.in_ok-circuit.circuit in
    let is = decode_gives ws read circuit c.in_ok-circuit.ensures.gives in
    let circuits = joined_circuits q s b ws circuit c.insert.new.self is c.in_ok-insert.ensures.updates in
    answers is_done (plain_book b) ws done joined ws (first (join_refusals q s (surveyed b) ws)) tt _ none refl
    (λ i. record { quantity = b.quantity; standard = b.standard; survey = record { legs = (surveyed b).legs; circuits = circuits i } })
