-- What joining a circuit answers, and that the book stays sound. Assumes nothing.
use Rattle.std.proofs.Common.{◌≡◌, ℕ, true, false, T, eqb, List, [], ◌∷◌, ◌++◌, is_some, Some, None, Ok, Err, Option, Result, OnOk, OnErr, sym, refl, ap, ◌∙◌, arith}
use Rattle.std.specs.declared.alloc.AllocFailed.{AllocFailed as NoPlace}
use Rattle.std.specs.BTreeMap.{BTreeMap}
use Rattle.std.specs.BTreeMap.{IsUnchanged, Updates}
use Rattle.std.specs.Map.{update}
use Rattle.std.specs.Ordering.{nat_cmp}
use Rattle.records.specs.declared.circuit.Circuit.{Circuit}
use Rattle.records.specs.declared.refusal.Fault.{Fault}
use Rattle.records.specs.declared.refusal.Fault.TheVariants.{Refused, Memory}
use Rattle.records.specs.declared.refusal.Reason.TheVariants.{Taken}
use Rattle.records.specs.declared.refusal.Refusal.{Refusal}
use Rattle.records.specs.Circuits.{CircuitRecord, circuit_record, circuit_decoded, circuit_read, circuit_refusals}
use Rattle.records.specs.Refusals.{first, unless, Gives}
use Rattle.quantities.specs.Acceptance.{due_refusals}
use Rattle.quantities.specs.Terms.{Terms}
use Rattle.standards.specs.Acceptance.{form_refusals}
use Rattle.standards.specs.Rules.{Rules}
use Rattle.plainbook.specs.Findings.{form}
use Rattle.plainbook.specs.Refusals.{chain_refusals, refused_if, join_refusals}
use Rattle.plainbook.specs.Steps.{with_circuit}
use Rattle.plainbook.specs.Surveys.{Survey, runs}
use Rattle.plainbook.proofs.Firsts.{first_append}
use Rattle.plainbook.proofs.Invariant.{join_sound}
use Rattle.survey.specs.declared.book.Book.{Book}
use Rattle.survey.specs.Books.{surveyed}
use Rattle.survey.specs.Numbered.{every, Numbered}
use Rattle.survey.specs.Standing.{standing_circuits, chains_over}
use Rattle.survey.proofs.Outcomes.{first_after, first_at, after_all, within, refused_where, not_refused}
use Rattle.survey.proofs.Soundness.{sound, chained, read_sets, read_unchanged}

module _ {Element : Type 0} (q : Terms Element) (s : Rules) (p : Survey) (ws : List ℕ) where
  abbrev circuit : CircuitRecord
  circuit = circuit_read ws

  abbrev taken : Option Refusal
  taken = refused_if Taken 0 (is_some (p.circuits circuit.number))

  abbrev chain : List (Option Refusal)
  chain = chain_refusals p.legs [] None 2 circuit.legs

  abbrev last : List (Option Refusal)
  last = form_refusals s (form (runs p.legs circuit.legs))

  abbrev rest : List (Option Refusal)
  rest = due_refusals q circuit.due ++ (chain ++ last)

  pub words_refused : (r : Refusal) → first (circuit_refusals ws) ≡ Some r → first (join_refusals q s p ws) ≡ Some r
  words_refused r e = within (circuit_refusals ws) (taken ∷ rest) r e

  module _ (read : first (circuit_refusals ws) ≡ None) where
    pub number_taken : is_some (p.circuits circuit.number) ≡ true → first (join_refusals q s p ws) ≡ Some (record { reason = Taken; place = 0 })
    number_taken e = after_all (circuit_refusals ws) (taken ∷ rest) read ∙ first_at taken rest _ (refused_where Taken 0 _ e)

    module _ (free : is_some (p.circuits circuit.number) ≡ false) where
      to_rest : first (join_refusals q s p ws) ≡ first rest
      to_rest = after_all (circuit_refusals ws) (taken ∷ rest) read ∙ first_after taken rest (not_refused Taken 0 _ free)

      pub due_refused : (r : Refusal) → first (due_refusals q circuit.due) ≡ Some r → first (join_refusals q s p ws) ≡ Some r
      due_refused r e = to_rest ∙ within (due_refusals q circuit.due) (chain ++ last) r e

      module _ (due : first (due_refusals q circuit.due) ≡ None) where
        to_chain : first (join_refusals q s p ws) ≡ first (chain ++ last)
        to_chain = to_rest ∙ after_all (due_refusals q circuit.due) (chain ++ last) due

        pub chain_refused : (r : Refusal) → first chain ≡ Some r → first (join_refusals q s p ws) ≡ Some r
        chain_refused r e = to_chain ∙ within chain last r e

        pub to_form : first chain ≡ None → first (join_refusals q s p ws) ≡ first last
        to_form e = to_chain ∙ after_all chain last e

-- ---- the circuit made of the words
module _ (ws : List ℕ) (read : first (circuit_refusals ws) ≡ None) where
  made : circuit_decoded ws ≡ Ok (circuit_read ws)
  made = ap (λ o. unless o (circuit_read ws)) read

  pub decode_lacks : (f : Fault) → Gives circuit_record (circuit_decoded ws) (Err f) → f ≡ Memory
  decode_lacks (Refused r) e = let z : ◌≡◌ {A = ℕ} 0 1 = cc (made) in absurd (omega arith)
  decode_lacks Memory e = refl

  pub decode_gives : (c : Circuit) → Gives circuit_record (circuit_decoded ws) (Ok c) → circuit_record c ≡ circuit_read ws
  decode_gives c e = some_same (sym e ∙ made)
    where
      some_same : {x y : CircuitRecord} → ◌≡◌ {A = Result CircuitRecord Refusal} (Ok x) (Ok y) → x ≡ y
      some_same h = cc

pub words_pass : {Element : Type 0} (q : Terms Element) (s : Rules) (p : Survey) (ws : List ℕ) → first (join_refusals q s p ws) ≡ None → first (circuit_refusals ws) ≡ None
words_pass q s p ws e = (first_append (circuit_refusals ws) (taken q s p ws ∷ rest q s p ws) e).0

module _ {Q S Element : Type 0} (q : Terms Element) (s : Rules) (b : Book Q S) (ws : List ℕ) (c : Circuit) (after : BTreeMap ℕ Circuit) (is : circuit_record c ≡ circuit_read ws) where
  -- the circuits that stand after an `insert`
  pub joined_circuits : Updates nat_cmp b.circuits after c.number.value (Some c) → standing_circuits after ≡ (with_circuit (surveyed b) (circuit_read ws).number (Some (circuit_read ws))).circuits
  joined_circuits sets =
      read_sets circuit_record b.circuits after c.number.value (Some c) sets ∙ ap (λ (x : CircuitRecord). update eqb (standing_circuits b.circuits) x.number (Some x)) is

  pub joined_chained : (r : Result (Option Circuit) (NoPlace (ℕ × Circuit))) → OnOk r (Updates nat_cmp b.circuits after c.number.value (Some c)) → OnErr r (IsUnchanged b.circuits after) → Numbered 32 after → first (join_refusals q s (surveyed b) ws) ≡ None → T (every (chains_over b.legs) after)
  joined_chained (Ok old) sets same numbered e =
      chained b.legs after (with_circuit (surveyed b) (circuit_read ws).number (Some (circuit_read ws))) numbered (join_sound q s (surveyed b) (sound b) ws e) refl (joined_circuits sets)
  joined_chained (Err y) sets same numbered e = chained b.legs after (surveyed b) numbered (sound b) refl (read_unchanged circuit_record b.circuits after same)
