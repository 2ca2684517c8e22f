-- The best of the classes that pass a test passes, and none before it does.
use Rattle.std.proofs.Common.{◌≡◌, ℕ, suc, ◌<◌, Bool, true, false, Some, unwrap_or, sym, refl, ap, ◌∙◌, subst, ⊎_elim, arith}
use Rattle.std.proofs.lemmas.Bool.{cond_both, both_ways, cases_lt}
use Rattle.standards.specs.declared.class.Class.{Class}
use Rattle.standards.specs.declared.class.Class.TheVariants.{First, Second, Third, Fourth, Fifth}
use Rattle.standards.specs.Classes.{class_number, class_at, least, Least}

pub of_number : (k : Class) → class_at (class_number k) ≡ Some k
of_number First = refl
of_number Second = refl
of_number Third = refl
of_number Fourth = refl
of_number Fifth = refl

same_number : (j k : Class) → class_number j ≡ class_number k → j ≡ k
same_number j k e = ap (λ o. unwrap_or o First) (sym (of_number j) ∙ ap class_at e ∙ of_number k)

in_range : (k : Class) → (0 < class_number k) × (class_number k < 6)
in_range First = (omega arith, omega arith)
in_range Second = (omega arith, omega arith)
in_range Third = (omega arith, omega arith)
in_range Fourth = (omega arith, omega arith)
in_range Fifth = (omega arith, omega arith)

module _ (test : Class → Bool) where
  -- no class with a number below n passes
  abbrev PassedOver : ℕ → Type 0
  PassedOver n = (k : Class) → class_number k < n → test k ≡ false

  start : PassedOver 1
  start k below = absurd (omega (arith, (in_range k).0))

  pass : (j : Class) → PassedOver (class_number j) → test j ≡ false → PassedOver (suc (class_number j))
  pass j before fails k below =
      ⊎_elim (before k) (λ above. let e : class_number j ≡ class_number k = omega arith in subst (λ i. test i ≡ false) (same_number j k e) fails)
      (cases_lt (class_number k) (class_number j))

  found : (j : Class) → PassedOver (class_number j) → test j ≡ true → Least test (Some j)
  found j before passes = (
    passes,
    λ k met.
        ⊎_elim (λ below. absurd (both_ways (test k) (before k below) met)) (λ above. above)
        (cases_lt (class_number k) (class_number j)),
  )

  pub least_is : Least test (least test)
  least_is =
      cond_both (test First) _ _ (Least test) (found First start)
      (λ a. let p = pass First start a in cond_both (test Second) _ _ (Least test) (found Second p)
      (λ b. let q = pass Second p b in cond_both (test Third) _ _ (Least test) (found Third q)
      (λ c. let r = pass Third q c in cond_both (test Fourth) _ _ (Least test) (found Fourth r)
      (λ d. let s = pass Fourth r d in cond_both (test Fifth) _ _ (Least test) (found Fifth s)
      (λ e k. pass Fifth s e k (in_range k).1)))))
