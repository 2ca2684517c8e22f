use Rattle.std.proofs.Common.{rules, ◌≡◌, is_some, [], Some, None, sym, refl, ap, ◌∙◌, subst}
use Rattle.std.proofs.lemmas.Result.{err_from_is_err_and}
use Rattle.records.specs.Legs.{leg_record}
use Rattle.std.specs.BTreeMap.{Updates}
use Rattle.std.specs.Ordering.{nat_cmp}
use Rattle.records.specs.declared.refusal.Reason.TheVariants.{InUse}
use Rattle.records.specs.Refusals.{first}
use Rattle.plainbook.specs.Refusals.{strike_leg_refusals}
use Rattle.plainbook.specs.Steps.{done, with_leg}
use Rattle.plainbook.specs.Surveys.{user}
use Rattle.plainbook.proofs.Firsts.{no_place}
use Rattle.plainbook.proofs.Invariant.{strike_leg_sound}
use Rattle.survey.specs.Books.{plain_book, surveyed, is_done}
use Rattle.survey.specs.Numbered.{table}
use Rattle.survey.specs.Standing.{own_leg}
use Rattle.survey.proofs.Tables.{mapped_isSome, numbered_removed, every_removed}
use Rattle.survey.proofs.Outcomes.{refuses_always, answers_always, was_refused, was_given}
use Rattle.survey.proofs.Soundness.{sound, chained, read_sets}
use Rattle.survey.proofs.Strikes.{leg_absent, leg_used}
use Rattle.survey.proofs.book.Book.strike_leg.Goals as goal

pub returns-then-not-contains_key : goal.returns-then-not-contains_key
returns-then-not-contains_key g c =
    let b = c.args.self.now in
    let n = c.args.number in
    let q = g.Q.Quantity.meaning b.quantity in
    let s = g.S.Standard.meaning b.standard in
    let given = was_given _ n _ c.in_ok-number.ensures in
    let absent = mapped_isSome leg_record (table b.legs n) ∙ ap (λ k. is_some (table b.legs k)) (sym given.1) ∙ sym c.contains_key.ensures ∙ c.if-not-contains_key.true in
    refuses_always is_done (plain_book b) [] done (with_leg (surveyed b) n None) [] (first (strike_leg_refusals q s (surveyed b) n)) _
    (leg_absent q s (surveyed b) n given.0 absent ∙ ap Some (sym c.at.ensures))

pub returns-in_err-refuse : goal.returns-in_err-refuse
returns-in_err-refuse g c =
    let b = c.args.self.now in
    let n = c.args.number in
    let q = g.Q.Quantity.meaning b.quantity in
    let s = g.S.Standard.meaning b.standard in
    let given = was_given _ n _ c.in_ok-number.ensures in
    let p = err_from_is_err_and c.from_residual-in_err-refuse.result c.from_residual-in_err-refuse.ensures.1 in
    let stands = mapped_isSome leg_record (table b.legs n) ∙ ap (λ k. is_some (table b.legs k)) (sym given.1) ∙ sym c.contains_key.ensures ∙ c.if-not-contains_key.false in
    let told : c.map.result ≡ c.user_of-user.result = search rules in
    let used = ap (user (surveyed b)) (sym given.1) ∙ sym (told ∙ c.user_of-user.ensures) in
    rw (p.1, p.2)
    (refuses_always is_done (plain_book b) [] done (with_leg (surveyed b) n None) [] (first (strike_leg_refusals q s (surveyed b) n)) _
    (leg_used q s (surveyed b) n given.0 c.map.result stands used ∙ was_refused _ tt _ c.in_err-refuse.ensures))

pub invariant_of-self : goal.invariant_of-self
invariant_of-self g c =
    let b = c.args.self.now in
    let n = c.args.number in
    let q = g.Q.Quantity.meaning b.quantity in
    let s = g.S.Standard.meaning b.standard in
    let given = was_given _ n _ c.in_ok-number.ensures in
    let after = c.remove.new.self in
    let sets = subst (λ k. Updates nat_cmp b.legs after k None) given.1 c.remove.ensures.updates in
    let stands = mapped_isSome leg_record (table b.legs n) ∙ ap (λ k. is_some (table b.legs k)) (sym given.1) ∙ sym c.contains_key.ensures ∙ c.if-not-contains_key.false in
    let told : c.map.result ≡ c.user_of-user.result = search rules in
    let unused = ap (user (surveyed b)) (sym given.1) ∙ sym c.user_of-user.ensures ∙ sym told ∙ no_place InUse _ (was_given _ tt _ c.in_ok-refuse.ensures).0 in
    let free = leg_used q s (surveyed b) n given.0 None stands unused in
    record {
      legs_numbered = numbered_removed 128 b.legs after n sets c.remove.ensures.ordered b.legs_numbered;
      circuits_numbered = b.circuits_numbered;
      own_legs = every_removed own_leg b.legs after n sets c.remove.ensures.ordered b.own_legs;
      own_circuits = b.own_circuits;
      chained = chained after b.circuits (with_leg (surveyed b) n None) b.circuits_numbered (strike_leg_sound q s (surveyed b) (sound b) n free) (read_sets leg_record b.legs after n None sets) refl;
    }

pub returns : goal.returns
returns g c =
    let b = c.args.self.now in
    let n = c.args.number in
    let q = g.Q.Quantity.meaning b.quantity in
    let s = g.S.Standard.meaning b.standard in
    let given = was_given _ n _ c.in_ok-number.ensures in
    let after = c.remove.new.self in
    let sets = subst (λ k. Updates nat_cmp b.legs after k None) given.1 c.remove.ensures.updates in
    let stands = mapped_isSome leg_record (table b.legs n) ∙ ap (λ k. is_some (table b.legs k)) (sym given.1) ∙ sym c.contains_key.ensures ∙ c.if-not-contains_key.false in
    let told : c.map.result ≡ c.user_of-user.result = search rules in
    let unused = ap (user (surveyed b)) (sym given.1) ∙ sym c.user_of-user.ensures ∙ sym told ∙ no_place InUse _ (was_given _ tt _ c.in_ok-refuse.ensures).0 in
    let legs = read_sets leg_record b.legs after n None sets in
    answers_always is_done (plain_book b) [] done (with_leg (surveyed b) n None) [] (first (strike_leg_refusals q s (surveyed b) n)) tt _
    (leg_used q s (surveyed b) n given.0 None stands unused) refl
    (λ i. record { quantity = b.quantity; standard = b.standard; survey = record { legs = legs i; circuits = (surveyed b).circuits } })
