-- The misses of one item that stands in a book.
use Rattle.std.specs.Prelude.{ℕ, List, Some}
use Rattle.standards.specs.declared.class.Class.{Class}
use Rattle.standards.specs.declared.finding.Directions.{Directions}
use Rattle.standards.specs.NoWorse.{Kind}
use Rattle.standards.specs.Rules.{Table}
use Rattle.plainbook.specs.Misses.{item_misses}

-- by its number, and by what it shows
abbrev pub item_listing : {X Shown : Type 0} {kind : Kind Shown} {better : Directions} → Table kind better → Class → (place : ℕ) → (X → ℕ) → (X → Shown) → X → List ℕ
item_listing rules k place number shown x = item_misses rules k place (number x) (Some (shown x))
