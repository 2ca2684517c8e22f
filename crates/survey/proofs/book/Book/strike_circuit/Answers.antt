use Rattle.std.proofs.Common.{is_some, [], Some, None, sym, refl, ap, ◌∙◌, subst}
use Rattle.records.specs.Circuits.{circuit_record}
use Rattle.std.specs.BTreeMap.{Updates}
use Rattle.std.specs.Ordering.{nat_cmp}
use Rattle.records.specs.Refusals.{first}
use Rattle.plainbook.specs.Refusals.{strike_circuit_refusals}
use Rattle.plainbook.specs.Steps.{done, with_circuit}
use Rattle.plainbook.proofs.Invariant.{strike_circuit_sound}
use Rattle.survey.specs.Books.{plain_book, surveyed, is_done}
use Rattle.survey.specs.Numbered.{table}
use Rattle.survey.specs.Standing.{own_circuit}
use Rattle.survey.proofs.Tables.{mapped_isSome, numbered_removed, every_removed}
use Rattle.survey.proofs.Outcomes.{refuses_always, answers_always, was_given}
use Rattle.survey.proofs.Soundness.{sound, chained, read_sets}
use Rattle.survey.proofs.Strikes.{circuit_absent, circuit_stands}
use Rattle.survey.proofs.book.Book.strike_circuit.Goals as goal

pub returns-then-not-contains_key : goal.returns-then-not-contains_key
returns-then-not-contains_key g c =
    let b = c.args.self.now in
    let n = c.args.number in
    let q = g.Q.Quantity.meaning b.quantity in
    let s = g.S.Standard.meaning b.standard in
    let given = was_given _ n _ c.in_ok-number.ensures in
    let absent = mapped_isSome circuit_record (table b.circuits n) ∙ ap (λ k. is_some (table b.circuits k)) (sym given.1) ∙ sym c.contains_key.ensures ∙ c.if-not-contains_key.true in
    refuses_always is_done (plain_book b) [] done (with_circuit (surveyed b) n None) [] (first (strike_circuit_refusals q s (surveyed b) n)) _
    (circuit_absent q s (surveyed b) n given.0 absent ∙ ap Some (sym c.at.ensures))

pub invariant_of-self : goal.invariant_of-self
invariant_of-self g c =
    let b = c.args.self.now in
    let n = c.args.number in
    let q = g.Q.Quantity.meaning b.quantity in
    let s = g.S.Standard.meaning b.standard in
    let given = was_given _ n _ c.in_ok-number.ensures in
    let after = c.remove.new.self in
    let sets = subst (λ k. Updates nat_cmp b.circuits after k None) given.1 c.remove.ensures.updates in
    let numbered = numbered_removed 32 b.circuits after n sets c.remove.ensures.ordered b.circuits_numbered in
    record {
      legs_numbered = b.legs_numbered;
      circuits_numbered = numbered;
      own_legs = b.own_legs;
      own_circuits = every_removed own_circuit b.circuits after n sets c.remove.ensures.ordered b.own_circuits;
      chained = chained b.legs after (with_circuit (surveyed b) n None) numbered (strike_circuit_sound q s (surveyed b) (sound b) n) refl (read_sets circuit_record b.circuits after n None sets);
    }

pub returns : goal.returns
returns g c =
    let b = c.args.self.now in
    let n = c.args.number in
    let q = g.Q.Quantity.meaning b.quantity in
    let s = g.S.Standard.meaning b.standard in
    let given = was_given _ n _ c.in_ok-number.ensures in
    let after = c.remove.new.self in
    let sets = subst (λ k. Updates nat_cmp b.circuits after k None) given.1 c.remove.ensures.updates in
    let stands = mapped_isSome circuit_record (table b.circuits n) ∙ ap (λ k. is_some (table b.circuits k)) (sym given.1) ∙ sym c.contains_key.ensures ∙ c.if-not-contains_key.false in
    let circuits = read_sets circuit_record b.circuits after n None sets in
    answers_always is_done (plain_book b) [] done (with_circuit (surveyed b) n None) [] (first (strike_circuit_refusals q s (surveyed b) n)) tt _
    (circuit_stands q s (surveyed b) n given.0 stands) refl
    (λ i. record { quantity = b.quantity; standard = b.standard; survey = record { legs = (surveyed b).legs; circuits = circuits i } })
