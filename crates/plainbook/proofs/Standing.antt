-- What stands at a number, and after a change at one. Assumes nothing.
use Rattle.std.proofs.Common.{◌≡◌, ℕ, Bool, true, eqb, is_some, Some, None, Option, sym, refl, ap, ◌∙◌, subst, ⊎_elim}
use Rattle.std.specs.Map.{update}
use Rattle.std.specs.Option.{option_map}
use Rattle.std.proofs.lemmas.Map.{update_here, update_apart}
use Rattle.std.proofs.lemmas.Bool.{cases_eq, false≢true}

pub some_same : {X : Type 0} {x y : X} → Some x ≡ Some y → x ≡ y
some_same e = cc

pub none_some : {X : Type 0} {x : X} → None ≡ Some x → ⊥
none_some e = false≢true (ap is_some e)

pub some_mapped : {X Y : Type 0} (f : X → Y) (o : Option X) → is_some (option_map f o) ≡ is_some o
some_mapped f None = refl
some_mapped f (Some x) = refl

-- ---- one number more, or less
-- what holds of all that stood, and of what is put at the number changed, holds of all that stands after
pub changed : {X : Type 0} (P : ℕ → X → Type 0) (f : ℕ → Option X) (n : ℕ) (w : Option X) → ((m : ℕ) (x : X) → f m ≡ Some x → P m x) → ((x : X) → w ≡ Some x → P n x) →
    (m : ℕ) (x : X) → update eqb f n w m ≡ Some x → P m x
changed P f n w before here m x e =
    ⊎_elim (λ same. subst (λ k. P k x) (sym same) (here x (sym (ap (update eqb f n w) same ∙ update_here f n w) ∙ e))) (λ other. before m x (sym (update_apart f n w m other) ∙ e)) (cases_eq m n)

-- and so of the numbers at which something stands
pub ranged : {X : Type 0} (ok : ℕ → Bool) (f : ℕ → Option X) (n : ℕ) (w : Option X) → ((m : ℕ) → is_some (f m) ≡ true → ok m ≡ true) → (is_some w ≡ true → ok n ≡ true) →
    (m : ℕ) → is_some (update eqb f n w m) ≡ true → ok m ≡ true
ranged ok f n w before here m e =
    ⊎_elim (λ same. subst (λ k. ok k ≡ true) (sym same) (here (ap is_some (sym (ap (update eqb f n w) same ∙ update_here f n w)) ∙ e)))
    (λ other. before m (ap is_some (sym (update_apart f n w m other)) ∙ e)) (cases_eq m n)

-- elsewhere nothing changes
pub elsewhere : {X : Type 0} (f : ℕ → Option X) (n m : ℕ) (w : Option X) → (m ≡ n → ⊥) → f m ≡ update eqb f n w m
elsewhere f n m w d = sym (update_apart f n w m d)
