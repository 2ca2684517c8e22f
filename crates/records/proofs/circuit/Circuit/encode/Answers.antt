use Rattle.std.proofs.Common.{rules, ◌≡◌, ◌+◌, ◌*◌, ◌^◌, ◌++◌, [], ◌∷◌, map, IfOk, sym, ap, ◌∙◌, ap₂, arith}
use Rattle.std.proofs.lemmas.Simd.{map-map}
use Rattle.std.proofs.lemmas.Result.{IfOk-weaker}
use Rattle.std.proofs.iter.runs.Made.{chains}
use Rattle.records.specs.declared.word.Kind.TheVariants as kinds
use Rattle.records.specs.Circuits.{use_word, use_record, circuit_words, circuit_record}
use Rattle.records.specs.Words.{word}
use Rattle.records.proofs.CircuitLaws.{circuits_read_back}
use Rattle.records.proofs.circuit.Circuit.encode.Goals as goal

pub returns-clause-law : goal.returns-clause-law
returns-clause-law c = circuits_read_back

pub returns-clause-words : goal.returns-clause-words
returns-clause-words c =
    let b = c.args.self.now in
    let number : b.number.value * 2 ^ 20 + 0 * 2 ^ 10 + 0 ≡ b.number.value * 2 ^ 20 = omega arith in
    let head = c.under.ensures ∙ ap (word kinds.Circuit) (c.packed-head.ensures ∙ number) in
    let chained : IfOk c.collect.result (λ v. v.items ≡ (c.under.result ∷ c.under-2.result ∷ []) ++ map (λ u. use_word (use_record u)) b.legs.items) = search (rules, chains) in
    let words : (c.under.result ∷ c.under-2.result ∷ []) ++ map (λ u. use_word (use_record u)) b.legs.items ≡ circuit_words (circuit_record b) =
    ap₂ (λ x y. x ∷ (y ∷ map (λ u. use_word (use_record u)) b.legs.items)) head c.under-2.ensures ∙ ap (λ us. word kinds.Circuit (b.number.value * 2 ^ 20) ∷ (word kinds.Due b.due.bits ∷ us)) (sym (map-map use_word use_record b.legs.items)) in
    IfOk-weaker c.collect.result _ (λ v. v.items ≡ circuit_words (circuit_record b)) (λ v is. is ∙ words) chained
