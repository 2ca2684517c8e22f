-- The first key of a map that passes a test. Assumes nothing.
use Rattle.std.proofs.Common.{◌≡◌, ℕ, Bool, true, false, cond, List, [], ◌∷◌, Some, None, Option, sym, refl, ap, ◌∙◌}
use Rattle.std.specs.Map.{keys_of}

module _ {X : Type 0} (t : ℕ → X → Bool) where
  abbrev pub pick : List (ℕ × X) → Option ℕ
  pick [] = None
  pick (p ∷ ps) = cond (t p.0 p.1) (Some p.0) (pick ps)

  -- a turn of a loop, where r is what the whole gives
  pub pick_skip : {ps qs : List (ℕ × X)} {k : ℕ} {v : X} {r : Option ℕ} → ps ≡ (k, v) ∷ qs → t k v ≡ false → pick ps ≡ r → pick qs ≡ r
  pick_skip {qs = qs} {k = k} e fails h = sym (ap pick e ∙ ap (λ b. cond b (Some k) (pick qs)) fails) ∙ h

  pub pick_take : {ps qs : List (ℕ × X)} {k : ℕ} {v : X} {r : Option ℕ} → ps ≡ (k, v) ∷ qs → t k v ≡ true → pick ps ≡ r → r ≡ Some k
  pick_take {qs = qs} {k = k} e passes h = sym h ∙ ap pick e ∙ ap (λ b. cond b (Some k) (pick qs)) passes

-- the same of keys alone
abbrev pub pick_key : (ℕ → Bool) → List ℕ → Option ℕ
pick_key t [] = None
pick_key t (k ∷ ks) = cond (t k) (Some k) (pick_key t ks)

pub pick_keys : {X : Type 0} (t : ℕ → Bool) (es : List (ℕ × X)) → pick_key t (keys_of es) ≡ pick (λ k _. t k) es
pick_keys t [] = refl
pick_keys t (e ∷ es) = ap (cond (t e.0) (Some e.0)) (pick_keys t es)

pub key_skip : (t : ℕ → Bool) {ks js : List ℕ} {k : ℕ} {r : Option ℕ} → ks ≡ k ∷ js → t k ≡ false → pick_key t ks ≡ r → pick_key t js ≡ r
key_skip t {js = js} {k = k} e fails h = sym (ap (pick_key t) e ∙ ap (λ b. cond b (Some k) (pick_key t js)) fails) ∙ h

pub key_take : (t : ℕ → Bool) {ks js : List ℕ} {k : ℕ} {r : Option ℕ} → ks ≡ k ∷ js → t k ≡ true → pick_key t ks ≡ r → r ≡ Some k
key_take t {js = js} {k = k} e passes h = sym h ∙ ap (pick_key t) e ∙ ap (λ b. cond b (Some k) (pick_key t js)) passes
