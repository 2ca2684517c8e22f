use Rattle.std.proofs.Common.{rules, ◌≡◌, length, Ok, vec_len, sym, ◌∙◌}
use Rattle.std.specs.BTreeMap.{values}
use Rattle.std.proofs.lemmas.Iterator.{YieldsList-from_map}
use Rattle.std.proofs.lemmas.Iterator.Adapters.{fact_from_collect}
use Rattle.std.proofs.lemmas.Iterator.Consumers.{YieldsList-from_rest}
use Rattle.records.specs.Legs.{leg_record}
use Rattle.standards.specs.Observed.{leg_finding}
use Rattle.grading.proofs.Collecting.{legs_found}
use Rattle.grading.proofs.collect.leg_findings.Goals as goal

pub returns : goal.returns
returns g c =
    let b = c.args.book.now in
    let q = g.Q.Quantity.meaning b.quantity in
    let road = YieldsList-from_map _ (λ l. leg_finding q (leg_record l)) (YieldsList-from_rest (values b.legs) (c.map.ensures.source ∙ c.values.ensures.rest)) c.map.ensures.closure (λ x r f k. search rules) in
    (fact_from_collect {E = Unit {0}} (λ xs v. (v.items ≡ xs) × (vec_len v ≡ length xs)) (Ok c.in_ok-findings.findings) c.in_ok-findings.ensures.ran road).0 ∙ sym (legs_found q b)
