use Rattle.std.proofs.Common.{◌≡◌, ℕ, zero, suc, ◌^◌, ◌<◌, Bool, true, ◌&&◌, eqb, sym, refl}
use Rattle.std.proofs.lemmas.Bool.{eqb-true}
use Rattle.std.proofs.lemmas.Bool.Decides.{Decides-below_and}
use Rattle.standards.specs.ClassSets.{bit}
use Rattle.plainbook.specs.Grades.{class_bits}
use Rattle.grading.proofs.grade.Grade.of.Goals as goal

abbrev passes_below : (ℕ → Bool) → ℕ → Bool
passes_below p zero = true
passes_below p (suc n) = p n && passes_below p n

-- the bits of a set are the bits of its members: computed at each of the 32 sets
own_bits : (bits : ℕ) → bits < 2 ^ 5 → class_bits (bit bits) ≡ bits
own_bits bits fits =
    eqb-true _ _ ((Decides-below_and (λ n. eqb (class_bits (bit n)) n) (λ n. eqb (class_bits (bit n)) n ≡ true) (passes_below (λ n. eqb (class_bits (bit n)) n)) (λ n. (λ e. e, λ e. e)) refl (λ _. refl) 32).0 refl bits fits)

pub returns : goal.returns
returns c =
    let bits = sym (own_bits c.args.met.bits c.args.met.five) in
    let count = c.count.ensures in
    let best = c.best.ensures.value in
    record { set = refl; value = λ i. record { set = bits i; count = count i; best = best i } }
