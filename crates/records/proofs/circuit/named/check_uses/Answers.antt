use Rattle.std.proofs.Common.{rules, ◌≡◌, ◌+◌, sym, ap, ◌∙◌}
use Rattle.std.specs.Option.{option_map}
use Rattle.records.specs.declared.refusal.Reason.TheVariants.{Range}
use Rattle.records.specs.Refusals.{refusal, unless}
use Rattle.records.proofs.Circuits.{unranged_first}
use Rattle.records.proofs.circuit.named.check_uses.Goals as goal

pub returns : goal.returns
returns c =
    let counted : c.map.result ≡ option_map (λ i. 2 + i) c.first_unranged.result = search rules in
    c.refuse.ensures ∙ ap (λ m. unless (refusal Range m) tt) (counted ∙ ap (option_map (λ i. 2 + i)) c.first_unranged.ensures ∙ sym (unranged_first c.args.words.now))
