-- A leg's record: what it says, its words, and when words are refused.
use Rattle.std.specs.Prelude.{◌≡◌, ℕ, ◌+◌, ◌*◌, ◌^◌, Bool, true, cond, not, ◌&&◌, List, [], ◌∷◌, drop, Some, None, Ok, Option, Result, ◌==◌, nat_lt, slice_index}
use Rattle.std.specs.Option.{option_map}
use Rattle.records.specs.declared.leg.Running.{Running}
use Rattle.records.specs.declared.leg.Running.TheVariants.{Single, Double}
use Rattle.records.specs.declared.leg.Leg.{Leg}
use Rattle.records.specs.declared.leg.Length.{Length}
use Rattle.records.specs.declared.leg.Readings.{Readings}
use Rattle.records.specs.declared.refusal.Reason.TheVariants.{Layout, Range}
use Rattle.records.specs.declared.refusal.Refusal.{Refusal}
use Rattle.records.specs.declared.word.Kind.TheVariants as kinds
use Rattle.records.specs.Layouts.{misplaced, leg_layout}
use Rattle.records.specs.Ranges.{is_leg_number, is_node}
use Rattle.records.specs.Refusals.{refusal, first, unless}
use Rattle.records.specs.Words.{word, payload, bits}

pub record LegRecord : Type 0 where
  pub number : ℕ
  pub start : ℕ
  pub end : ℕ
  pub value : ℕ
  pub length : Length
  pub readings : Readings
  pub back : Option ℕ

-- what a leg in code says
abbrev pub leg_record : Leg → LegRecord
leg_record l =
    record {
      number = l.number.value;
      start = l.start.value;
      end = l.end.value;
      value = l.value.bits;
      length = l.length;
      readings = l.readings;
      back = option_map (λ p. p.bits) l.back;
    }

-- a leg with a back value was run twice
abbrev pub running : Option ℕ → Running
running None = Single
running (Some back) = Double

abbrev pub back_words : Option ℕ → List ℕ
back_words None = []
back_words (Some back) = word kinds.Back back ∷ []

abbrev pub leg_words : LegRecord → List ℕ
leg_words l =
    word kinds.Leg (l.number * 2 ^ 20 + l.start * 2 ^ 10 + l.end)
    ∷ word kinds.Value l.value
    ∷ word kinds.Length l.length.metres
    ∷ word kinds.Readings (l.readings.a * 2 ^ 20 + l.readings.b * 2 ^ 10 + l.readings.c)
    ∷ back_words l.back

abbrev pub back_read : List ℕ → Option ℕ
back_read [] = None
back_read (w ∷ ws) = Some (payload w)

abbrev pub readings_read : ℕ → Readings
readings_read p = record { a = bits 20 8 p; b = bits 10 10 p; c = bits 0 10 p }

-- what the words say, where the layout is right
abbrev pub leg_read : List ℕ → LegRecord
leg_read ws =
    record {
      number = bits 20 8 (payload (slice_index ws 0));
      start = bits 10 10 (payload (slice_index ws 0));
      end = bits 0 10 (payload (slice_index ws 0));
      value = payload (slice_index ws 1);
      length = record { metres = payload (slice_index ws 2) };
      readings = readings_read (payload (slice_index ws 3));
      back = back_read (drop 4 ws);
    }

-- the number and the nodes are in range, and the nodes differ
abbrev pub leg_ranged : LegRecord → Bool
leg_ranged l = is_leg_number l.number && (is_node l.start && (is_node l.end && not (l.start == l.end)))

abbrev pub leg_refusals : List ℕ → List (Option Refusal)
leg_refusals ws =
    refusal Layout (misplaced 0 leg_layout ws)
    ∷ refusal Range (cond (leg_ranged (leg_read ws)) None (Some 0))
    ∷ []

abbrev pub leg_decoded : List ℕ → Result LegRecord Refusal
leg_decoded ws = unless (first (leg_refusals ws)) (leg_read ws)

-- each part of the record fits its place in the words
abbrev pub fits_back : Option ℕ → Bool
fits_back None = true
fits_back (Some back) = nat_lt back (2 ^ 28)

abbrev pub leg_fits : LegRecord → Bool
leg_fits l =
    leg_ranged l
    && (nat_lt l.value (2 ^ 28)
    && (nat_lt l.length.metres (2 ^ 28)
    && (nat_lt l.readings.a (2 ^ 8)
    && (nat_lt l.readings.b (2 ^ 10) && (nat_lt l.readings.c (2 ^ 10) && fits_back l.back)))))

-- A leg within the ranges is read back from its words; and words that are read are the words of the leg that they
-- give, which is within the ranges. So nothing else is accepted, and two legs never look alike.
abbrev pub LegsReadBack : Type 0
LegsReadBack =
    ((l : LegRecord) → leg_fits l ≡ true → leg_decoded (leg_words l) ≡ Ok l)
    × ((ws : List ℕ) (l : LegRecord) → leg_decoded ws ≡ Ok l → (ws ≡ leg_words l) × (leg_fits l ≡ true))
