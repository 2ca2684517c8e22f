-- The sums of heights over a circuit's legs stay far below half of 2^64.
use Rattle.std.proofs.Common.{◌≡◌, ℕ, ◌*◌, ◌<◌, ◌≤◌, true, ◌&&◌, leb, List, [], ◌∷◌, map, length, ℤ, pos, neg_ℤ, nat_abs, Some, None, Option, refl, ap, ◌∙◌, arith, lit<, lit≤}
use borrow.Author.Differences.{ints}
use lib.ListN.{length-map}
use lib.Signed.{le_z}
use Rattle.std.proofs.lemmas.Bool.{and_parts, leb-true}
use Rattle.std.specs.List.{AllByRecursion as All}
use Rattle.records.specs.Ranges.{is_leg_count}
use Rattle.records.specs.Words.{signed}
use Rattle.records.specs.declared.circuit.Sense.{Sense}
use Rattle.records.specs.declared.circuit.Sense.TheVariants.{Along, Against}
use Rattle.quantities.specs.Residues.{signed_form}
use Rattle.quantities.specs.Heights.{height_modulus, greatest_height, heights, accepts_height, accepts_back_height, double_rise, disagreement}
use Rattle.quantities.specs.Meanings.{Modulo, heights_terms, height_residues}
use Rattle.quantities.specs.Sums.{LegRun, as_run, whole_sum, total, all_accepted, run_contribution, run_misclosure}
use Rattle.quantities.specs.NeverWrap.{true_rise, true_misclosure, HeightsNeverWrap}
use Rattle.quantities.proofs.Totals.{summed_near, element_opposite}

height_bound : (p : ℕ) → accepts_height p ≡ true → nat_abs (signed p) ≤ greatest_height
height_bound p h =
    let parts = and_parts (le_z (neg_ℤ (pos greatest_height)) (signed p)) (le_z (signed p) (pos greatest_height)) h in
    omega (arith, ints, parts.0, parts.1)

-- what a leg says is at most twice the greatest height
module _ (v : ℕ) (accepted : accepts_height v ≡ true) where
  rise_bound : (b : Option ℕ) → accepts_back_height b ≡ true → nat_abs (double_rise v b) ≤ 2 * greatest_height
  rise_bound None h = omega (arith, ints, height_bound v accepted)
  rise_bound (Some b) h = omega (arith, ints, height_bound v accepted, height_bound b h)

  disagreement_bound : (b : Option ℕ) → accepts_back_height b ≡ true → nat_abs (disagreement v b) ≤ 2 * greatest_height
  disagreement_bound None h = omega arith
  disagreement_bound (Some b) h = omega (arith, ints, height_bound v accepted, height_bound b h)

as_run_size : (s : Sense) (z : ℤ) → nat_abs (as_run neg_ℤ s z) ≡ nat_abs z
as_run_size Along z = refl
as_run_size Against z = omega (arith, ints)

Within : (LegRun → ℤ) → Type 0
Within g =
    (leg : LegRun) → accepts_height leg.value ≡ true → accepts_back_height leg.back ≡ true → nat_abs (g leg) ≤ 2 * greatest_height

all_within : (g : LegRun → ℤ) → Within g → (legs : List LegRun) → all_accepted heights_terms legs ≡ true → All (λ z. nat_abs z ≤ 2 * greatest_height) (map g legs)
unfolding Within
all_within g within [] h = tt
all_within g within (leg ∷ legs) h =
    let parts = and_parts (accepts_height leg.value && accepts_back_height leg.back) (all_accepted heights_terms legs) h in
    let own = and_parts (accepts_height leg.value) (accepts_back_height leg.back) parts.0 in
    (within leg own.0 own.1, all_within g within legs parts.1)

map_through : (f : LegRun → Modulo height_modulus) (g : LegRun → ℤ) → ((leg : LegRun) → f leg ≡ height_residues.element (g leg)) → (legs : List LegRun) → map f legs ≡ map height_residues.element (map g legs)
map_through f g agrees [] = refl
map_through f g agrees (leg ∷ legs) = λ i. agrees leg i ∷ map_through f g agrees legs i

true_total : (f : LegRun → Modulo height_modulus) (g : LegRun → ℤ) → ((leg : LegRun) → f leg ≡ height_residues.element (g leg)) → Within g → (legs : List LegRun) → is_leg_count (length legs) ≡ true → all_accepted heights_terms legs ≡ true → signed_form height_modulus (total heights_terms (map f legs)).residue ≡ whole_sum (map g legs)
true_total f g agrees within legs count accepted =
    let few = leb-true (length legs) 16 (and_parts (leb 1 (length legs)) (leb (length legs) 16) count).1 in
    let short : 2 * (length (map g legs) * (2 * greatest_height)) < height_modulus = omega (arith, few, length-map legs g) in
    ap (λ xs. signed_form height_modulus (total heights_terms xs).residue) (map_through f g agrees legs)
    ∙ summed_near height_modulus (lit< tt) height_residues (lit≤ tt) heights (2 * greatest_height) (map g legs) (all_within g within legs accepted) short

run_agrees : (s : Sense) (z : ℤ) → as_run heights_terms.opposite s (height_residues.element z) ≡ height_residues.element (as_run neg_ℤ s z)
run_agrees Along z = refl
run_agrees Against z = element_opposite height_modulus (lit< tt) height_residues (lit≤ tt) heights z

pub heights_never_wrap : HeightsNeverWrap
unfolding HeightsNeverWrap Within
heights_never_wrap legs count accepted = (
  true_total (run_contribution heights_terms) true_rise
      (λ leg. run_agrees leg.sense (double_rise leg.value leg.back))
      (λ leg v b. rw as_run_size (rise_bound leg.value v leg.back b))
      legs count accepted,
  true_total (run_misclosure heights_terms) true_misclosure
      (λ leg. refl)
      (λ leg v b. disagreement_bound leg.value v leg.back b)
      legs count accepted,
)
