-- Heights never wrap: over the legs of a circuit, the sums modulo 2^64 are the sums of the whole numbers.
use Rattle.std.specs.Prelude.{◌≡◌, true, List, map, length, ℤ, neg_ℤ}
use Rattle.records.specs.Ranges.{is_leg_count}
use Rattle.quantities.specs.Residues.{signed_form}
use Rattle.quantities.specs.Heights.{height_modulus, double_rise, disagreement}
use Rattle.quantities.specs.Meanings.{heights_terms}
use Rattle.quantities.specs.Sums.{LegRun, as_run, whole_sum, total, all_accepted, run_contribution, run_misclosure}

-- the double rise of a leg as run, and how far its two runnings disagree, in 0.01 mm
abbrev pub true_rise : LegRun → ℤ
true_rise leg = as_run neg_ℤ leg.sense (double_rise leg.value leg.back)

abbrev pub true_misclosure : LegRun → ℤ
true_misclosure leg = disagreement leg.value leg.back

-- For the legs of any circuit, each accepted, the signed form of the summed contributions is the sum of their rises,
-- and the signed form of the summed misclosures the sum of their disagreements.
unfoldable pub HeightsNeverWrap : Type 0
HeightsNeverWrap =
    (legs : List LegRun)
    → is_leg_count (length legs) ≡ true
    → all_accepted heights_terms legs ≡ true
    → (signed_form height_modulus (total heights_terms (map (run_contribution heights_terms) legs)).residue
    ≡ whole_sum (map true_rise legs))
    × (signed_form height_modulus (total heights_terms (map (run_misclosure heights_terms) legs)).residue
    ≡ whole_sum (map true_misclosure legs))
