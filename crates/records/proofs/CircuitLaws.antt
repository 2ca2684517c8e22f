-- What decodes is what encoding gives back: circuits. Assumes nothing.
use Rattle.std.proofs.Common.{◌≡◌, ℕ, zero, suc, ◌+◌, ◌*◌, ◌^◌, ◌<◌, ◌≤◌, Bool, true, false, cond, eqb, ltb, List, [], ◌∷◌, map, length, get_or, drop, replicate, Some, None, Ok, Option, sym, refl, ap, ◌∙◌, subst, ap₂, arith}
use Rattle.std.proofs.lemmas.List.{length-map}
use Rattle.std.proofs.lemmas.Bool.{and_parts, and_from, ltb-true, lt-ltb, eqb-true, eqb-false}
use Rattle.records.specs.declared.circuit.Sense.{Sense}
use Rattle.records.specs.declared.circuit.Sense.TheVariants.{Along, Against}
use Rattle.records.specs.declared.refusal.Reason.TheVariants.{Layout, Range}
use Rattle.records.specs.declared.word.Kind.TheVariants as kinds
use Rattle.records.specs.declared.word.Slot.{Slot}
use Rattle.records.specs.Circuits.{CircuitRecord, UseRecord, sense_bit, use_word, use_read, head_ranged, circuit_words, circuit_read, circuit_decoded, circuit_fits, uses_fit, CircuitsReadBack}
use Rattle.records.specs.Uses.{use_ranged, use_unranged}
use Rattle.records.specs.Layouts.{misplaced, circuit_layout, must, may}
use Rattle.records.specs.Ranges.{is_leg_number, is_circuit_number, is_leg_count}
use Rattle.records.specs.Refusals.{refusal, first, unless}
use Rattle.records.specs.Words.{kind, kind_number, payload, word, bits}
use Rattle.records.proofs.Circuits.{circuit_taken, counted}
use Rattle.records.proofs.Layouts.{step, step_back, next}
use Rattle.records.proofs.Ranges.{upto, from}
use Rattle.records.proofs.Words.{kind_word, payload_word, word_is, payload_fits}

-- ---- one use
sense_small : (s : Sense) → sense_bit s ≤ 1
sense_small Along = omega arith
sense_small Against = omega arith

sense_same : (s : Sense) (n : ℕ) → n ≡ sense_bit s → cond (eqb n 1) Against Along ≡ s
sense_same Along n e = ap (λ n. cond (eqb n 1) Against Along) e
sense_same Against n e = ap (λ n. cond (eqb n 1) Against Along) e

module _ (s : Sense) (leg : ℕ) (h : is_leg_number leg ≡ true) where
  low : leg < 2 ^ 8
  low = let k = upto 1 128 leg h in omega arith

  use_fits : sense_bit s * 2 ^ 27 + leg < 2 ^ 28
  use_fits = let k = low in let b = sense_small s in omega arith

  use_payload : payload (word kinds.Use (sense_bit s * 2 ^ 27 + leg)) ≡ sense_bit s * 2 ^ 27 + leg
  use_payload = payload_word kinds.Use _ use_fits

  leg_bits : bits 0 8 (sense_bit s * 2 ^ 27 + leg) ≡ leg
  leg_bits = let k = low in omega arith

  spare_bits : bits 8 19 (sense_bit s * 2 ^ 27 + leg) ≡ 0
  spare_bits = let k = low in omega arith

  top_bit : bits 27 1 (sense_bit s * 2 ^ 27 + leg) ≡ sense_bit s
  top_bit = let k = low in let b = sense_small s in omega arith

  one_ranged : use_ranged (use_word (record { leg = leg; sense = s })) ≡ true
  one_ranged =
      and_from _ _ (ap (λ p. is_leg_number (bits 0 8 p)) use_payload ∙ ap is_leg_number leg_bits ∙ h)
      (ap (λ p. eqb (bits 8 19 p) 0) use_payload ∙ ap (λ n. eqb n 0) spare_bits)

  one_read : use_read (use_word (record { leg = leg; sense = s })) ≡ record { leg = leg; sense = s }
  one_read =
      let leg_is = ap (bits 0 8) use_payload ∙ leg_bits in
      let sense_is = sense_same s _ (ap (bits 27 1) use_payload ∙ top_bit) in
      λ i. record { leg = leg_is i; sense = sense_is i }

  one_kind : kind (use_word (record { leg = leg; sense = s })) ≡ 8
  one_kind = kind_word kinds.Use _ use_fits

-- ---- all uses
uses_ranged : (j : ℕ) (us : List UseRecord) → uses_fit us ≡ true → use_unranged j (map use_word us) ≡ None
uses_ranged j [] e = refl
uses_ranged j (u ∷ us) e =
    let p = and_parts (is_leg_number u.leg) (uses_fit us) e in
    ap (λ b. cond b (use_unranged (suc j) (map use_word us)) (Some j)) (one_ranged u.sense u.leg p.0) ∙ uses_ranged (suc j) us p.1

uses_read : (us : List UseRecord) → uses_fit us ≡ true → map use_read (map use_word us) ≡ us
uses_read [] e = refl
uses_read (u ∷ us) e = let p = and_parts (is_leg_number u.leg) (uses_fit us) e in ap₂ ◌∷◌ (one_read u.sense u.leg p.0) (uses_read us p.1)

uses_laid : (i n : ℕ) (us : List UseRecord) → uses_fit us ≡ true → length us ≤ n → misplaced i (replicate n (may kinds.Use)) (map use_word us) ≡ None
uses_laid i zero [] e l = refl
uses_laid i zero (u ∷ us) e l = absurd (omega arith)
uses_laid i (suc n) [] e l = uses_laid (suc i) n [] e (omega arith)
uses_laid i (suc n) (u ∷ us) e l =
    let p = and_parts (is_leg_number u.leg) (uses_fit us) e in
    step i (may kinds.Use) (replicate n (may kinds.Use)) (use_word u) (map use_word us) (one_kind u.sense u.leg p.0) ∙ uses_laid (suc i) n us p.1 (omega arith)

-- ---- from a circuit to its words and back
module _ (c : CircuitRecord) (hn : is_circuit_number c.number ≡ true) (hd : c.due < 2 ^ 28) (few : is_leg_count (length c.legs) ≡ true) (fit : uses_fit c.legs ≡ true) where
  head_fits : c.number * 2 ^ 20 < 2 ^ 28
  head_fits = let k = upto 1 32 c.number hn in omega arith

  head_payload : payload (word kinds.Circuit (c.number * 2 ^ 20)) ≡ c.number * 2 ^ 20
  head_payload = payload_word kinds.Circuit _ head_fits

  number_bits : bits 20 8 (c.number * 2 ^ 20) ≡ c.number
  number_bits = let k = upto 1 32 c.number hn in omega arith

  low_bits : bits 0 20 (c.number * 2 ^ 20) ≡ 0
  low_bits = omega arith

  first_ranged : head_ranged (word kinds.Circuit (c.number * 2 ^ 20)) ≡ true
  first_ranged =
      and_from _ _ (ap (λ p. is_circuit_number (bits 20 8 p)) head_payload ∙ ap is_circuit_number number_bits ∙ hn)
      (ap (λ p. eqb (bits 0 20 p) 0) head_payload ∙ ap (λ n. eqb n 0) low_bits)

  laid_uses : (us : List UseRecord) → is_leg_count (length us) ≡ true → uses_fit us ≡ true → misplaced 2 (drop 2 circuit_layout) (map use_word us) ≡ None
  laid_uses [] n e = absurd (let k = from 1 16 0 n in omega arith)
  laid_uses (u ∷ us) n e =
      let p = and_parts (is_leg_number u.leg) (uses_fit us) e in
      let k = upto 1 16 (length (u ∷ us)) n in
      step 2 (must kinds.Use) (replicate 15 (may kinds.Use)) (use_word u) (map use_word us) (one_kind u.sense u.leg p.0) ∙ uses_laid 3 15 us p.1 (omega arith)

  laid_out : misplaced 0 circuit_layout (circuit_words c) ≡ None
  laid_out =
      step 0 (must kinds.Circuit) (drop 1 circuit_layout) _ (drop 1 (circuit_words c)) (kind_word kinds.Circuit _ head_fits)
      ∙ step 1 (must kinds.Due) (drop 2 circuit_layout) _ (map use_word c.legs) (kind_word kinds.Due _ hd)
      ∙ laid_uses c.legs few fit

  read_back : circuit_read (circuit_words c) ≡ c
  read_back =
      let number = ap (bits 20 8) head_payload ∙ number_bits in
      let due = payload_word kinds.Due _ hd in
      let legs = uses_read c.legs fit in
      λ i. record { number = number i; due = due i; legs = legs i }

  given : circuit_decoded (circuit_words c) ≡ Ok c
  given = circuit_taken (circuit_words c) laid_out (circuit_read (circuit_words c)) first_ranged (uses_ranged 2 c.legs fit) ∙ ap Ok read_back

there : (c : CircuitRecord) → circuit_fits c ≡ true → circuit_decoded (circuit_words c) ≡ Ok c
there c e =
    let p0 = and_parts (is_circuit_number c.number) _ e in
    let p1 = and_parts (ltb c.due (2 ^ 28)) _ p0.1 in
    let p2 = and_parts (is_leg_count (length c.legs)) _ p1.1 in
    given c p0.0 (ltb-true _ _ p1.0) p2.0 p2.1

-- ---- from words to a circuit and back
record Taken (ws : List ℕ) (c : CircuitRecord) : Type 0 where
  laid : misplaced 0 circuit_layout ws ≡ None
  head : head_ranged (get_or ws 0 0) ≡ true
  uses : use_unranged 2 (drop 2 ws) ≡ None
  read : circuit_read ws ≡ c

taken : (ws : List ℕ) (c : CircuitRecord) → circuit_decoded ws ≡ Ok c → Taken ws c
taken ws c e = go (misplaced 0 circuit_layout ws) (head_ranged (get_or ws 0 0)) (use_unranged 2 (drop 2 ws)) refl refl refl e
  where
    go : (m : Option ℕ) (b : Bool) (u : Option ℕ) → misplaced 0 circuit_layout ws ≡ m → head_ranged (get_or ws 0 0) ≡ b → use_unranged 2 (drop 2 ws) ≡ u →
        unless (first (refusal Layout m ∷ refusal Range (cond b u (Some 0)) ∷ [])) (circuit_read ws) ≡ Ok c → Taken ws c
    go None true None p q r h = record { laid = p; head = q; uses = r; read = cc }
    go None true (Some j) p q r h = let z : ◌≡◌ {A = ℕ} 0 1 = cc in absurd (omega arith)
    go None false u p q r h = let z : ◌≡◌ {A = ℕ} 0 1 = cc in absurd (omega arith)
    go (Some i) b u p q r h = let z : ◌≡◌ {A = ℕ} 0 1 = cc in absurd (omega arith)

-- every slot is for a use
abbrev Only : List Slot → Type 0
Only [] = Unit {0}
Only (s ∷ slots) = (s.kind ≡ kinds.Use) × Only slots

only_more : (n : ℕ) → Only (replicate n (may kinds.Use))
only_more zero = tt
only_more (suc n) = (refl, only_more n)

-- a use's word, put together again
sense_of : (n : ℕ) → n ≤ 1 → sense_bit (cond (eqb n 1) Against Along) ≡ n
sense_of n l = go (eqb n 1) refl
  where
    go : (b : Bool) → eqb n 1 ≡ b → sense_bit (cond b Against Along) ≡ n
    go true e = sym (eqb-true n 1 e)
    go false e = let other = eqb-false n 1 e in omega arith

rejoined : (p : ℕ) → p < 2 ^ 28 → bits 8 19 p ≡ 0 → p ≡ bits 27 1 p * 2 ^ 27 + bits 0 8 p
rejoined p h e = omega arith

one_back : (w : ℕ) → kind w ≡ 8 → use_ranged w ≡ true → w ≡ use_word (use_read w)
one_back w k r =
    let p = and_parts (is_leg_number (bits 0 8 (payload w))) _ r in
    let small : bits 27 1 (payload w) ≤ 1 = omega arith in
    word_is kinds.Use w k
    ∙ ap (word kinds.Use)
    (rejoined (payload w) (payload_fits w) (eqb-true _ 0 p.1) ∙ ap (λ s. s * 2 ^ 27 + bits 0 8 (payload w)) (sym (sense_of _ small)))

uses_back : (i j : ℕ) (slots : List Slot) (ws : List ℕ) → Only slots → misplaced i slots ws ≡ None → use_unranged j ws ≡ None →
    (ws ≡ map use_word (map use_read ws)) × (uses_fit (map use_read ws) ≡ true)
uses_back i j slots [] o m u = (refl, refl)
uses_back i j [] (w ∷ ws) o m u = let z : ◌≡◌ {A = ℕ} 0 1 = cc in absurd (omega arith)
uses_back i j (s ∷ slots) (w ∷ ws) o m u =
    let k = step_back i s slots w ws m in
    go (use_ranged w) refl u (k.0 ∙ ap kind_number o.0) (uses_back (suc i) (suc j) slots ws o.1 k.1)
  where
    go : (b : Bool) → use_ranged w ≡ b → cond b (use_unranged (suc j) ws) (Some j) ≡ None → kind w ≡ 8 →
        (use_unranged (suc j) ws ≡ None → (ws ≡ map use_word (map use_read ws)) × (uses_fit (map use_read ws) ≡ true)) →
        ((w ∷ ws) ≡ map use_word (map use_read (w ∷ ws))) × (uses_fit (map use_read (w ∷ ws)) ≡ true)
    go true e h k rest = (ap₂ ◌∷◌ (one_back w k e) (rest h).0, and_from _ _ (and_parts (is_leg_number (bits 0 8 (payload w))) _ e).0 (rest h).1)
    go false e h k rest = let z : ◌≡◌ {A = ℕ} 0 1 = cc in absurd (omega arith)

abbrev Rewritten : List ℕ → Type 0
Rewritten ws = head_ranged (get_or ws 0 0) ≡ true → use_unranged 2 (drop 2 ws) ≡ None → is_leg_count (length (drop 2 ws)) ≡ true → (ws ≡ circuit_words (circuit_read ws)) × (circuit_fits (circuit_read ws) ≡ true)

head_back : (h : ℕ) → kind h ≡ 6 → head_ranged h ≡ true → h ≡ word kinds.Circuit (bits 20 8 (payload h) * 2 ^ 20)
head_back h k r =
    let p = and_parts (is_circuit_number (bits 20 8 (payload h))) _ r in
    let zero_low = eqb-true _ 0 p.1 in
    word_is kinds.Circuit h k ∙ ap (word kinds.Circuit) (top (payload h) (payload_fits h) zero_low)
  where
    top : (p : ℕ) → p < 2 ^ 28 → bits 0 20 p ≡ 0 → p ≡ bits 20 8 p * 2 ^ 20
    top p l e = omega arith

module _ (h d : ℕ) (ws : List ℕ) where
  rebuilt : kind h ≡ 6 → kind d ≡ 7 → misplaced 2 (drop 2 circuit_layout) ws ≡ None → Rewritten (h ∷ (d ∷ ws))
  rebuilt kh kd laid head uses few =
      let rest = uses_back 2 2 (drop 2 circuit_layout) ws (refl, only_more 15) laid uses in (
        λ i. head_back h kh head i ∷ (word_is kinds.Due d kd i ∷ rest.0 i),
        and_from _ _ (and_parts (is_circuit_number (bits 20 8 (payload h))) _ head).0
            (and_from _ _ (lt-ltb _ _ (payload_fits d)) (and_from _ _ (ap is_leg_count (length-map ws use_read) ∙ few) rest.1)),
      )

rewritten : (ws : List ℕ) → misplaced 0 circuit_layout ws ≡ None → Rewritten ws
rewritten ws e =
    let head = next 0 (must kinds.Circuit) (drop 1 circuit_layout) ws refl e in
    let due = next 1 (must kinds.Due) (drop 2 circuit_layout) head.rest refl head.laid_rest in
    let is : ws ≡ head.here ∷ (due.here ∷ due.rest) = cc (head.is, due.is) in
    subst Rewritten (sym is) (rebuilt head.here due.here due.rest head.kind_is due.kind_is due.laid_rest)

back : (ws : List ℕ) (c : CircuitRecord) → circuit_decoded ws ≡ Ok c → (ws ≡ circuit_words c) × (circuit_fits c ≡ true)
back ws c e =
    let t = taken ws c e in
    subst (λ k. (ws ≡ circuit_words k) × (circuit_fits k ≡ true)) t.read (rewritten ws t.laid t.head t.uses (counted ws t.laid))

pub circuits_read_back : CircuitsReadBack
circuits_read_back = (there, back)
