-- What decodes is what encoding gives back: legs. Assumes nothing.
use Rattle.std.proofs.Common.{◌≡◌, ℕ, ◌^◌, ◌<◌, Bool, true, false, cond, ltb, List, [], ◌∷◌, drop, Some, None, Ok, Option, sym, refl, ap, ◌∙◌, subst, arith}
use Rattle.std.proofs.lemmas.Bool.{and_parts, and_from, ltb-true, lt-ltb}
use Rattle.records.specs.declared.refusal.Reason.TheVariants.{Layout, Range}
use Rattle.records.specs.declared.word.Kind.{Kind}
use Rattle.records.specs.declared.word.Slot.{Slot}
use Rattle.records.specs.declared.word.Kind.TheVariants as kinds
use Rattle.records.specs.Layouts.{misplaced, leg_layout, must, may}
use Rattle.records.specs.Legs.{LegRecord, leg_read, leg_words, back_words, back_read, leg_ranged, leg_fits, fits_back, leg_decoded, LegsReadBack}
use Rattle.records.specs.Ranges.{is_leg_number, is_node}
use Rattle.records.specs.Refusals.{refusal, first, unless}
use Rattle.records.specs.Words.{kind, kind_number, payload, word, bits}
use Rattle.records.proofs.Layouts.{step, step_back, next}
use Rattle.records.proofs.Ranges.{upto}
use Rattle.records.proofs.Legs.{accepted, same_leg}
use Rattle.records.proofs.Words.{kind_word, payload_word, word_is, payload_fits, packed, packed_fits, high_packed, middle_packed, low_packed, packed_is, high_fits, ten_fits}

-- ---- from a leg to its words and back
record Fitting (l : LegRecord) : Type 0 where
  ranged : leg_ranged l ≡ true
  number : l.number < 2 ^ 8
  start : l.start < 2 ^ 10
  end : l.end < 2 ^ 10
  value : l.value < 2 ^ 28
  metres : l.length.metres < 2 ^ 28
  a : l.readings.a < 2 ^ 8
  b : l.readings.b < 2 ^ 10
  c : l.readings.c < 2 ^ 10
  back : fits_back l.back ≡ true

fitting : (l : LegRecord) → leg_fits l ≡ true → Fitting l
fitting l e =
    let p0 = and_parts (leg_ranged l) _ e in
    let p1 = and_parts (ltb l.value (2 ^ 28)) _ p0.1 in
    let p2 = and_parts (ltb l.length.metres (2 ^ 28)) _ p1.1 in
    let p3 = and_parts (ltb l.readings.a (2 ^ 8)) _ p2.1 in
    let p4 = and_parts (ltb l.readings.b (2 ^ 10)) _ p3.1 in
    let p5 = and_parts (ltb l.readings.c (2 ^ 10)) _ p4.1 in
    let r0 = and_parts (is_leg_number l.number) _ p0.0 in
    let r1 = and_parts (is_node l.start) _ r0.1 in
    let r2 = and_parts (is_node l.end) _ r1.1 in
    let n = upto 1 128 l.number r0.0 in
    let s = upto 1 1023 l.start r1.0 in
    let t = upto 1 1023 l.end r2.0 in
    record {
      ranged = p0.0;
      number = omega arith;
      start = omega arith;
      end = omega arith;
      value = ltb-true _ _ p1.0;
      metres = ltb-true _ _ p2.0;
      a = ltb-true _ _ p3.0;
      b = ltb-true _ _ p4.0;
      c = ltb-true _ _ p5.0;
      back = p5.1;
    }

module _ (l : LegRecord) (f : Fitting l) where
  head_fits : packed l.number l.start l.end < 2 ^ 28
  head_fits = packed_fits _ _ _ f.number f.start f.end

  readings_fit : packed l.readings.a l.readings.b l.readings.c < 2 ^ 28
  readings_fit = packed_fits _ _ _ f.a f.b f.c

  back_laid : (o : Option ℕ) → fits_back o ≡ true → misplaced 4 (may kinds.Back ∷ []) (back_words o) ≡ None
  back_laid None e = refl
  back_laid (Some p) e = step 4 (may kinds.Back) [] _ [] (kind_word kinds.Back p (ltb-true _ _ e))

  laid_out : misplaced 0 leg_layout (leg_words l) ≡ None
  laid_out =
      let slots : ℕ → List Slot = λ n. drop n leg_layout in
      let words : ℕ → List ℕ = λ n. drop n (leg_words l) in
      step 0 (must kinds.Leg) (slots 1) _ (words 1) (kind_word kinds.Leg _ head_fits)
      ∙ step 1 (must kinds.Value) (slots 2) _ (words 2) (kind_word kinds.Value _ f.value)
      ∙ step 2 (must kinds.Length) (slots 3) _ (words 3) (kind_word kinds.Length _ f.metres)
      ∙ step 3 (must kinds.Readings) (slots 4) _ (words 4) (kind_word kinds.Readings _ readings_fit)
      ∙ back_laid l.back f.back

  back_same : (o : Option ℕ) → fits_back o ≡ true → back_read (back_words o) ≡ o
  back_same None e = refl
  back_same (Some p) e = ap Some (payload_word kinds.Back p (ltb-true _ _ e))

  read_back : leg_read (leg_words l) ≡ l
  read_back =
      let head = payload_word kinds.Leg _ head_fits in
      let readings = payload_word kinds.Readings _ readings_fit in
      same_leg (ap (bits 20 8) head ∙ high_packed _ _ _ f.number f.start f.end)
      (ap (bits 10 10) head ∙ middle_packed _ _ _ f.number f.start f.end)
      (ap (bits 0 10) head ∙ low_packed _ _ _ f.number f.start f.end)
      (payload_word kinds.Value _ f.value)
      (payload_word kinds.Length _ f.metres)
      (ap (bits 20 8) readings ∙ high_packed _ _ _ f.a f.b f.c)
      (ap (bits 10 10) readings ∙ middle_packed _ _ _ f.a f.b f.c)
      (ap (bits 0 10) readings ∙ low_packed _ _ _ f.a f.b f.c)
      (back_same l.back f.back)

there : (l : LegRecord) → leg_fits l ≡ true → leg_decoded (leg_words l) ≡ Ok l
there l e = let f = fitting l e in accepted (leg_words l) l (laid_out l f) (read_back l f) f.ranged

-- ---- from words to a leg and back
record Taken (ws : List ℕ) (l : LegRecord) : Type 0 where
  laid : misplaced 0 leg_layout ws ≡ None
  ranged : leg_ranged (leg_read ws) ≡ true
  read : leg_read ws ≡ l

taken : (ws : List ℕ) (l : LegRecord) → leg_decoded ws ≡ Ok l → Taken ws l
taken ws l e = go (misplaced 0 leg_layout ws) (leg_ranged (leg_read ws)) refl refl e
  where
    go : (m : Option ℕ) (b : Bool) → misplaced 0 leg_layout ws ≡ m → leg_ranged (leg_read ws) ≡ b →
        unless (first (refusal Layout m ∷ refusal Range (cond b None (Some 0)) ∷ [])) (leg_read ws) ≡ Ok l → Taken ws l
    go None true p q h = record { laid = p; ranged = q; read = cc }
    go None false p q h = let z : ◌≡◌ {A = ℕ} 0 1 = cc in absurd (omega arith)
    go (Some i) b p q h = let z : ◌≡◌ {A = ℕ} 0 1 = cc in absurd (omega arith)

back_there : (ws : List ℕ) → misplaced 4 (may kinds.Back ∷ []) ws ≡ None → (ws ≡ back_words (back_read ws)) × (fits_back (back_read ws) ≡ true)
back_there [] e = (refl, refl)
back_there (w ∷ []) e =
    let k = step_back 4 (may kinds.Back) [] w [] e in (ap (λ v. v ∷ []) (word_is kinds.Back w k.0), lt-ltb _ _ (payload_fits w))
back_there (w ∷ (v ∷ vs)) e =
    let k = step_back 4 (may kinds.Back) [] w (v ∷ vs) e in let z : ◌≡◌ {A = ℕ} 0 1 = cc in absurd (omega arith)

-- a word of three fields
packed_word : (k : Kind) (w : ℕ) → kind w ≡ kind_number k → w ≡ word k (packed (bits 20 8 (payload w)) (bits 10 10 (payload w)) (bits 0 10 (payload w)))
packed_word k w e = word_is k w e ∙ ap (word k) (packed_is (payload w) (payload_fits w))

abbrev Rewritten : List ℕ → Type 0
Rewritten ws = leg_ranged (leg_read ws) ≡ true → (ws ≡ leg_words (leg_read ws)) × (leg_fits (leg_read ws) ≡ true)

module _ (h v m q : ℕ) (ws : List ℕ) where
  whole : kind h ≡ 1 → kind v ≡ 2 → kind m ≡ 3 → kind q ≡ 4 → misplaced 4 (may kinds.Back ∷ []) ws ≡ None → Rewritten (h ∷ (v ∷ (m ∷ (q ∷ ws))))
  whole kh kv km kq e r =
      let rest = back_there ws e in (
        λ i. packed_word kinds.Leg h kh i ∷ (word_is kinds.Value v kv i ∷ (word_is kinds.Length m km i ∷ (packed_word kinds.Readings q kq i ∷ rest.0 i))),
        and_from _ _ r
            (and_from _ _ (lt-ltb _ _ (payload_fits v))
            (and_from _ _ (lt-ltb _ _ (payload_fits m))
            (and_from _ _ (lt-ltb _ _ (high_fits (payload q)))
            (and_from _ _ (lt-ltb _ _ (ten_fits 10 (payload q))) (and_from _ _ (lt-ltb _ _ (ten_fits 0 (payload q))) rest.1))))),
      )

rewritten : (ws : List ℕ) → misplaced 0 leg_layout ws ≡ None → Rewritten ws
rewritten ws e =
    let head = next 0 (must kinds.Leg) (drop 1 leg_layout) ws refl e in
    let value = next 1 (must kinds.Value) (drop 2 leg_layout) head.rest refl head.laid_rest in
    let length = next 2 (must kinds.Length) (drop 3 leg_layout) value.rest refl value.laid_rest in
    let readings = next 3 (must kinds.Readings) (drop 4 leg_layout) length.rest refl length.laid_rest in
    let is : ws ≡ head.here ∷ (value.here ∷ (length.here ∷ (readings.here ∷ readings.rest))) = cc (head.is, value.is, length.is, readings.is) in
    subst Rewritten (sym is) (whole _ _ _ _ _ head.kind_is value.kind_is length.kind_is readings.kind_is readings.laid_rest)

back : (ws : List ℕ) (l : LegRecord) → leg_decoded ws ≡ Ok l → (ws ≡ leg_words l) × (leg_fits l ≡ true)
back ws l e = let t = taken ws l e in subst (λ k. (ws ≡ leg_words k) × (leg_fits k ≡ true)) t.read (rewritten ws t.laid t.ranged)

pub legs_read_back : LegsReadBack
legs_read_back = (there, back)
