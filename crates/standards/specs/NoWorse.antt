-- When one finding is no worse than another: no size or sum of sizes is greater, each reading is no worse in the standard's
-- direction, and all else is equal.
use Rattle.std.specs.Prelude.{◌≡◌, ℕ, ◌≤◌, List, [], ◌∷◌}
use Rattle.std.specs.List.{AllZip}
use Rattle.records.specs.declared.leg.Readings.{Readings}
use Rattle.standards.specs.declared.finding.LegFinding.{LegFinding}
use Rattle.standards.specs.declared.finding.CircuitFinding.{CircuitFinding}
use Rattle.standards.specs.declared.finding.WholeFinding.{WholeFinding}
use Rattle.standards.specs.declared.finding.Directions.{Directions}
use Rattle.standards.specs.declared.finding.Direction.{Direction}
use Rattle.standards.specs.declared.finding.Direction.TheVariants.{More, Less, Equal}

-- a kind of finding: its sizes and sums of sizes, its readings, and the finding without them
pub record Kind (Finding : Type 0) : Type 0 where
  pub sizes : Finding → List ℕ
  pub readings : Finding → Readings
  pub others : Finding → Finding

abbrev pub no_readings : Readings
no_readings = record { a = 0; b = 0; c = 0 }

abbrev pub leg_kind : Kind LegFinding
leg_kind =
    record {
      sizes = λ f. f.misclosure ∷ [];
      readings = λ f. f.readings;
      others = λ f. record { length = f.length; running = f.running; misclosure = 0; readings = no_readings };
    }

abbrev pub circuit_kind : Kind CircuitFinding
circuit_kind =
    record {
      sizes = λ f. f.closure ∷ f.misclosure ∷ [];
      readings = λ f. no_readings;
      others = λ f. record { form = f.form; length = f.length; running = f.running; closure = 0; misclosure = 0 };
    }

abbrev pub whole_kind : Kind WholeFinding
whole_kind =
    record {
      sizes = λ f. f.closures ∷ [];
      readings = λ f. no_readings;
      others = λ f. record { circuits = f.circuits; closures = 0 };
    }

-- a is better as more, b and c as less
abbrev pub more_less_less : Directions
more_less_less = record { a = More; b = Less; c = Less }

abbrev pub NoWorseReading : Direction → ℕ → ℕ → Type 0
NoWorseReading More x y = y ≤ x
NoWorseReading Less x y = x ≤ y
NoWorseReading Equal x y = x ≡ y

pub record NoWorse {Finding : Type 0} (kind : Kind Finding) (better : Directions) (f g : Finding) : Type 0 where
  pub sizes : AllZip ◌≤◌ (kind.sizes f) (kind.sizes g)
  pub a : NoWorseReading better.a (kind.readings f).a (kind.readings g).a
  pub b : NoWorseReading better.b (kind.readings f).b (kind.readings g).b
  pub c : NoWorseReading better.c (kind.readings f).c (kind.readings g).c
  pub others : kind.others f ≡ kind.others g

-- A finding is no worse than itself, and no worse than what one that it is no worse than is no worse than.
pub record Preorder {Finding : Type 0} (kind : Kind Finding) (better : Directions) : Type 0 where
  pub same : (f : Finding) → NoWorse kind better f f
  pub through : (f g h : Finding) → NoWorse kind better f g → NoWorse kind better g h → NoWorse kind better f h
