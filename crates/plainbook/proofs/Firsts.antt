-- Ordered lists of refusals, of which none applies. Assumes nothing.
use Rattle.std.proofs.Common.{◌≡◌, ℕ, Bool, true, false, cond, List, [], ◌∷◌, ◌++◌, Some, None, Option, refl, arith}
use Rattle.records.specs.declared.refusal.Reason.{Reason}
use Rattle.records.specs.declared.refusal.Refusal.{Refusal}
use Rattle.records.specs.Refusals.{refusal, first}
use Rattle.plainbook.specs.Refusals.{refused_if}

pub first_none : (o : Option Refusal) (rest : List (Option Refusal)) → first (o ∷ rest) ≡ None → (o ≡ None) × (first rest ≡ None)
first_none None rest e = (refl, e)
first_none (Some r) rest e = let z : ◌≡◌ {A = ℕ} 0 1 = cc in absurd (omega arith)

pub first_append : (xs ys : List (Option Refusal)) → first (xs ++ ys) ≡ None → (first xs ≡ None) × (first ys ≡ None)
first_append [] ys e = (refl, e)
first_append (None ∷ xs) ys e = first_append xs ys e
first_append (Some r ∷ xs) ys e = let z : ◌≡◌ {A = ℕ} 0 1 = cc in absurd (omega arith)

pub no_place : (reason : Reason) (o : Option ℕ) → refusal reason o ≡ None → o ≡ None
no_place reason None e = refl
no_place reason (Some i) e = let z : ◌≡◌ {A = ℕ} 0 1 = cc in absurd (omega arith)

pub not_if : (reason : Reason) (place : ℕ) (b : Bool) → refused_if reason place b ≡ None → b ≡ false
not_if reason place true e = let z : ◌≡◌ {A = ℕ} 0 1 = cc in absurd (omega arith)
not_if reason place false e = refl

pub passed : (reason : Reason) (place : ℕ) (b : Bool) → refusal reason (cond b None (Some place)) ≡ None → b ≡ true
passed reason place true e = refl
passed reason place false e = let z : ◌≡◌ {A = ℕ} 0 1 = cc in absurd (omega arith)
