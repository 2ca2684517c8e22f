-- Five bits as a set of classes: facts of the 32 sets, each computed at every one of them.
use Rattle.std.proofs.Common.{◌≡◌, ℕ, zero, suc, ◌+◌, ◌-◌, ◌*◌, ◌/◌, ◌%◌, ◌^◌, ◌<◌, Bool, true, false, cond, ◌&&◌, eqb, List, Some, None, Option, sym, refl, ap, ◌∙◌, arith, lit<}
use mathlib.Core.HLevel.{is_prop→PathP}
use native.Mathlib.Bridge.{le_prop}
use lib.Bits.{bit_and, and_shr, and_mod}
use lib.Count.{ones, ones_in, count_trailing_zeros}
use mir.Val.{bool_byte}
use Rattle.std.proofs.lemmas.Nat.{mod_below}
use Rattle.std.proofs.lemmas.Bool.{eqb-true}
use Rattle.std.proofs.lemmas.Bool.Decides.{Decides-below_and}
use Rattle.standards.specs.declared.class.Class.{Class}
use Rattle.standards.specs.declared.class.Class.TheVariants.{First, Second, Third, Fourth, Fifth}
use Rattle.standards.specs.Classes.{class_number, class_at, members, least, entry}
use Rattle.standards.specs.ClassSets.{bit, holds, SetsByMembers}
use Rattle.standards.proofs.Bests.{of_number}

abbrev passes_below : (ℕ → Bool) → ℕ → Bool
passes_below p zero = true
passes_below p (suc n) = p n && passes_below p n

-- a test that passes, computed, at each of the 32 sets
at_each_set : (p : ℕ → Bool) → passes_below p 32 ≡ true → (bits : ℕ) → bits < 32 → p bits ≡ true
at_each_set p = (Decides-below_and p (λ n. p n ≡ true) (passes_below p) (λ n. (λ e. e, λ e. e)) refl (λ _. refl) 32).0

pub ones_count : (bits : ℕ) → bits < 32 → ones bits ≡ members (bit bits)
unfolding ones ones_in
ones_count bits fits = eqb-true _ _ (at_each_set (λ n. eqb (ones n) (members (bit n))) refl bits fits)

-- the number of a class, and 0 for none
abbrev number_of : Option Class → ℕ
number_of None = 0
number_of (Some k) = class_number k

of_number_of : (o : Option Class) → class_at (number_of o) ≡ o
of_number_of None = refl
of_number_of (Some k) = of_number k

pub zeros_least : (bits : ℕ) → bits < 32 → class_at (count_trailing_zeros 8 bits + 1) ≡ least (bit bits)
unfolding count_trailing_zeros
zeros_least bits fits =
    let same : number_of (class_at (count_trailing_zeros 8 bits + 1)) ≡ number_of (least (bit bits)) =
    eqb-true _ _ (at_each_set (λ n. eqb (number_of (class_at (count_trailing_zeros 8 n + 1))) (number_of (least (bit n)))) refl bits fits) in
    sym (of_number_of (class_at (count_trailing_zeros 8 bits + 1))) ∙ ap class_at same ∙ of_number_of (least (bit bits))

-- the bits of five tests
abbrev weighed : (Class → Bool) → ℕ
weighed test =
    cond (test First) 1 0 + cond (test Second) 2 0 + cond (test Third) 4 0 + cond (test Fourth) 8 0 + cond (test Fifth) 16 0

weighed_bits : (bits : ℕ) → bits < 32 → weighed (bit bits) ≡ bits
weighed_bits bits fits = eqb-true _ _ (at_each_set (λ n. eqb (weighed (bit n)) n) refl bits fits)

pub sets_by_members : SetsByMembers
sets_by_members s t same =
    let one : (k : Class) (n : ℕ) → cond (holds s k) n 0 ≡ cond (holds t k) n 0 = λ k n. ap (λ b. cond b n 0) (same k) in
    let bits : s.bits ≡ t.bits =
    omega (arith, weighed_bits s.bits s.five, weighed_bits t.bits t.five, one First 1, one Second 2, one Third 4, one Fourth 8, one Fifth 16) in
    λ i. record { bits = bits i; five = is_prop→PathP (λ j. bits j < 2 ^ 5) (λ j. le_prop) s.five t.five i }

byte_small : (b : Bool) → bool_byte b < 2
byte_small true = lit< tt
byte_small false = lit< tt

is_byte : (b : Bool) (n : ℕ) → n ≡ bool_byte b → eqb n 1 ≡ b
is_byte true n e = ap (λ m. eqb m 1) e
is_byte false n e = ap (λ m. eqb m 1) e

-- the bits of a row of tests
pub packed_bit : (passed : List Bool) {v w x y z : ℕ}
    → v ≡ bool_byte (entry false passed First) → w ≡ bool_byte (entry false passed Second)
    → x ≡ bool_byte (entry false passed Third) → y ≡ bool_byte (entry false passed Fourth)
    → z ≡ bool_byte (entry false passed Fifth) → (k : Class)
    → bit (v + 2 * w + 4 * x + 8 * y + 16 * z) k ≡ entry false passed k
packed_bit passed {v} {w} {x} {y} {z} a b c d e k =
    let small : (j : Class) → bool_byte (entry false passed j) < 2 = λ j. byte_small (entry false passed j) in
    let v2 : v < 2 = omega (arith, small First) in
    let w2 : w < 2 = omega (arith, small Second) in
    let x2 : x < 2 = omega (arith, small Third) in
    let y2 : y < 2 = omega (arith, small Fourth) in
    let z2 : z < 2 = omega (arith, small Fifth) in
    elim k as (λ j. bit (v + 2 * w + 4 * x + 8 * y + 16 * z) j ≡ entry false passed j) [
      | First ↦ is_byte _ _ (omega arith)
      | Second ↦ is_byte _ _ (omega arith)
      | Third ↦ is_byte _ _ (omega arith)
      | Fourth ↦ is_byte _ _ (omega arith)
      | Fifth ↦ is_byte _ _ (omega arith)
    ]

-- a bit of two numbers' common bits
and_digit : (x y : ℕ) → x < 2 → y < 2 → eqb (bit_and x y) 1 ≡ (eqb x 1 && eqb y 1)
and_digit zero zero p q = refl
and_digit zero (suc zero) p q = refl
and_digit (suc zero) zero p q = refl
and_digit (suc zero) (suc zero) p q = refl
and_digit zero (suc (suc y)) p q = absurd (omega arith)
and_digit (suc zero) (suc (suc y)) p q = absurd (omega arith)
and_digit (suc (suc x)) y p q = absurd (omega arith)

pub and_bit : (a b : ℕ) (k : Class) → bit (bit_and a b) k ≡ (bit a k && bit b k)
and_bit a b k =
    let place = class_number k - 1 in
    ap (λ n. eqb n 1) (ap (λ n. n % 2) (and_shr a b place) ∙ and_mod (a / 2 ^ place) (b / 2 ^ place) 1)
    ∙ and_digit (a / 2 ^ place % 2) (b / 2 ^ place % 2) (mod_below _ 2 (omega arith)) (mod_below _ 2 (omega arith))
