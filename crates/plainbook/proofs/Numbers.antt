-- Lists of numbers: members, distinct members, and sums over numbers that pair off. Assumes nothing.
use Rattle.std.proofs.Common.{◌≡◌, ℕ, zero, suc, ◌+◌, ◌<◌, ◌≤◌, Bool, true, false, cond, List, [], ◌∷◌, Some, None, sym, refl, ap, ◌∙◌, subst, inl, inr, ⊎_elim, arith}
use Rattle.std.specs.List.{range_with_len}
use Rattle.std.proofs.lemmas.Bool.{cases_eq, cases_Bool}
use Rattle.records.specs.Ranges.{is_leg_number, is_circuit_number}
use Rattle.records.proofs.Ranges.{upto, from}
use Rattle.plainbook.specs.Surveys.{In, leg_numbers, circuit_numbers, first_number}

abbrev pub Distinct : List ℕ → Type 0
Distinct [] = Unit {0}
Distinct (m ∷ ms) = (In m ms → ⊥) × Distinct ms

-- ---- the numbers in order
pub counting_has : (a n k : ℕ) → a ≤ k → k < a + n → In k (range_with_len a n)
counting_has a zero k low high = absurd (omega arith)
counting_has a (suc n) k low high = ⊎_elim (λ e. inl e) (λ d. inr (counting_has (a + 1) n k (omega (arith, d)) (omega arith))) (cases_eq k a)

counting_from : (a n k : ℕ) → In k (range_with_len a n) → a ≤ k
counting_from a zero k h = absurd h
counting_from a (suc n) k (inl e) = omega (arith, e)
counting_from a (suc n) k (inr h) = omega (arith, counting_from (a + 1) n k h)

pub counting_distinct : (a n : ℕ) → Distinct (range_with_len a n)
counting_distinct a zero = tt
counting_distinct a (suc n) = (λ h. omega (arith, counting_from (a + 1) n a h), counting_distinct (a + 1) n)

pub leg_numbered : (n : ℕ) → is_leg_number n ≡ true → In n leg_numbers
unfolding leg_numbers
leg_numbered n e = counting_has 1 128 n (from 1 128 n e) (omega (arith, upto 1 128 n e))

pub circuit_numbered : (n : ℕ) → is_circuit_number n ≡ true → In n circuit_numbers
unfolding circuit_numbers
circuit_numbered n e = counting_has 1 32 n (from 1 32 n e) (omega (arith, upto 1 32 n e))

pub circuit_numbers_distinct : Distinct circuit_numbers
unfolding circuit_numbers
circuit_numbers_distinct = counting_distinct 1 32

-- ---- sums
abbrev pub sum : (ℕ → ℕ) → List ℕ → ℕ
sum f [] = 0
sum f (n ∷ ns) = f n + sum f ns

-- the list without the first place of a member
without : (n : ℕ) (ns : List ℕ) → In n ns → List ℕ
without n [] h = []
without n (m ∷ ms) (inl e) = ms
without n (m ∷ ms) (inr h) = m ∷ without n ms h

without_sum : (u : ℕ → ℕ) (n : ℕ) (ns : List ℕ) (h : In n ns) → sum u ns ≡ u n + sum u (without n ns h)
unfolding without
without_sum u n [] h = absurd h
without_sum u n (m ∷ ms) (inl e) = ap (λ k. u k + sum u ms) (sym e)
without_sum u n (m ∷ ms) (inr h) = omega (arith, without_sum u n ms h)

without_has : (n k : ℕ) (ns : List ℕ) (h : In n ns) → (k ≡ n → ⊥) → In k ns → In k (without n ns h)
unfolding without
without_has n k [] h d i = absurd h
without_has n k (m ∷ ms) (inl e) d (inl f) = absurd (d (f ∙ sym e))
without_has n k (m ∷ ms) (inl e) d (inr i) = i
without_has n k (m ∷ ms) (inr h) d (inl f) = inl f
without_has n k (m ∷ ms) (inr h) d (inr i) = inr (without_has n k ms h d i)

-- a member that counts goes to one of the others, each to one of its own, which is at least as great
pub record Into (st : ℕ → Bool) (v u to : ℕ → ℕ) (ms ns : List ℕ) : Type 0 where
  pub nothing : (m : ℕ) → st m ≡ false → v m ≡ 0
  pub has : (m : ℕ) → In m ms → st m ≡ true → In (to m) ns
  pub less : (m : ℕ) → st m ≡ true → v m ≤ u (to m)
  pub own : (m n : ℕ) → st m ≡ true → st n ≡ true → to m ≡ to n → m ≡ n

pub sum_into : (st : ℕ → Bool) (v u to : ℕ → ℕ) (ms ns : List ℕ) → Distinct ms → Into st v u to ms ns → sum v ms ≤ sum u ns
sum_into st v u to [] ns d h = omega arith
sum_into st v u to (m ∷ ms) ns d h =
    ⊎_elim
    (λ e.
    let here = h.has m (inl refl) e in
    let rest = sum_into st v u to ms (without (to m) ns here) d.1
    (record {
      nothing = h.nothing;
      has = λ k i f. without_has (to m) (to k) ns here (λ same. d.0 (subst (λ j. In j ms) (h.own k m f e same) i)) (h.has k (inr i) f);
      less = h.less;
      own = h.own;
    }) in
    omega (arith, rest, h.less m e, without_sum u (to m) ns here))
    (λ e.
    let rest = sum_into st v u to ms ns d.1 (record { nothing = h.nothing; has = λ k i f. h.has k (inr i) f; less = h.less; own = h.own }) in
    omega (arith, rest, h.nothing m e))
    (cases_Bool (st m))

-- ---- the first number that passes a test
pub first_none_passes : (test : ℕ → Bool) (ns : List ℕ) (m : ℕ) → In m ns → first_number test ns ≡ None → test m ≡ false
first_none_passes test [] m i e = absurd i
first_none_passes test (n ∷ ns) m i e = go (test n) refl e i (λ h. first_none_passes test ns m h)
  where
    go : (b : Bool) → test n ≡ b → cond b (Some n) (first_number test ns) ≡ None → In m (n ∷ ns) → (In m ns → first_number test ns ≡ None → test m ≡ false) → test m ≡ false
    go true t h i rest = absurd (let z : ◌≡◌ {A = ℕ} 0 1 = cc in omega arith)
    go false t h (inl same) rest = ap test same ∙ t
    go false t h (inr there) rest = rest there h
