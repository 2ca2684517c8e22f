-- Words written one after another.
use Rattle.std.specs.Prelude.{ℕ, zero, suc, List, [], ◌∷◌}
use Rattle.plainbook.specs.Misses.{leg_place, circuit_place, whole_place}
use Rattle.listing.specs.declared.item.Place.{Place}
use Rattle.listing.specs.declared.item.Place.TheVariants.{Leg, Circuit, Whole}

abbrev pub place_number : Place → ℕ
place_number Leg = leg_place
place_number Circuit = circuit_place
place_number Whole = whole_place

-- the words with others in their place from an index on, as far as there are words
abbrev pub put : (at : ℕ) → (new words : List ℕ) → List ℕ
put at new [] = []
put zero [] (w ∷ ws) = w ∷ ws
put zero (x ∷ new) (w ∷ ws) = x ∷ put zero new ws
put (suc at) new (w ∷ ws) = w ∷ put at new ws
