use Rattle.std.proofs.Common.{◌≡◌, drop, sym, ap, ◌∙◌, rules}
use Rattle.std.specs.Option.{option_map}
use Rattle.records.specs.Legs.{back_read}
use Rattle.records.specs.Ranges.{is_leg_number, is_node}
use Rattle.records.specs.Words.{bits}
use Rattle.records.proofs.Layouts.{laid}
use Rattle.records.proofs.Legs.{accepted, in_range, same_leg, no_back, one_back}
use Rattle.records.proofs.Ranges.{passed}
use Rattle.records.proofs.leg.Leg.decode.Goals as goal
use Rattle.records.proofs.leg.Leg.decode.Goals.{in-empty, in-len1}

pub returns : goal.returns
returns c =
    let ws = c.args.words.now in
    let number = passed is_leg_number c.field.result c.in_ok-number.number.value (sym (ap (option_map (λ n. n.value)) c.in_ok-number.ensures.ok_part) ∙ c.new.ensures) in
    let start = passed is_node c.field-2.result c.in_ok-start.start.value (sym (ap (option_map (λ n. n.value)) c.in_ok-start.ensures.ok_part) ∙ c.new-2.ensures) in
    let end = passed is_node c.field-3.result c.in_ok-end.end.value (sym (ap (option_map (λ n. n.value)) c.in_ok-end.ensures.ok_part) ∙ c.new-3.ensures) in
    let back : back_read (drop 4 ws) ≡ option_map (λ p. p.bits) c.if-rest-lt1.back = elim c.if-rest-lt1.branch [ in-empty w ↦ no_back ws (search rules) ∙ sym (ap (option_map (λ p. p.bits)) w.back-is) | in-len1 w ↦ one_back ws _ (search rules) w.of_word.ensures ∙ sym (ap (option_map (λ p. p.bits)) w.back-is) ] in
    sym (accepted ws _ (laid _ _ c.in_ok-check.ensures)
    (same_leg (sym (number ∙ c.field.ensures ∙ ap (bits 20 8) c.of_word-head.ensures))
    (sym (start ∙ c.field-2.ensures ∙ ap (bits 10 10) c.of_word-head.ensures))
    (sym (end ∙ c.field-3.ensures ∙ ap (bits 0 10) c.of_word-head.ensures))
    (sym c.of_word-2.ensures)
    (sym c.of_word-metres.ensures)
    (sym (c.field-a.ensures ∙ ap (bits 20 8) c.of_word-readings.ensures))
    (sym (c.field-b.ensures ∙ ap (bits 10 10) c.of_word-readings.ensures))
    (sym (c.field-c.ensures ∙ ap (bits 0 10) c.of_word-readings.ensures))
    back)
    (in_range c.in_ok-number.number.value c.in_ok-start.start.value c.in_ok-end.end.value c.in_ok-number.number.ranged c.in_ok-start.start.ranged c.in_ok-end.end.ranged (sym c.eq.ensures ∙ c.if-eq.false)))
