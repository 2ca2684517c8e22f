-- Which circuits of a book use a leg. Assumes nothing.
use Rattle.std.proofs.Common.{◌≡◌, ℕ, ◌+◌, ◌<◌, ◌≤◌, Bool, true, false, cond, not, ◌&&◌, ◌||◌, eqb, List, [], ◌∷◌, map, length, get_or, drop, is_some, Some, None, vec_items, Option, sym, refl, ap, ◌∙◌, arith}
use Rattle.std.specs.BTreeMap.{keys, values}
use Rattle.std.specs.List.{range_with_len}
use Rattle.std.specs.Map.{values_of}
use Rattle.std.specs.Option.{option_map}
use Rattle.std.proofs.lemmas.List.{at_drop_more, at_drop_all}
use Rattle.std.proofs.lemmas.Bool.{eq-eqb, ne_eqb}
use Rattle.records.specs.declared.circuit.Circuit.{Circuit}
use Rattle.records.specs.declared.circuit.LegUse.{LegUse}
use Rattle.records.specs.declared.leg.Leg.{Leg}
use Rattle.records.specs.Circuits.{circuit_record, use_record}
use Rattle.records.specs.Legs.{leg_record}
use Rattle.plainbook.specs.Surveys.{names, circuit_names, user, uses, loose, loose_leg, any_leg, leg_numbers, circuit_numbers}
use Rattle.survey.specs.declared.book.Book.{Book}
use Rattle.survey.specs.Books.{surveyed}
use Rattle.survey.specs.Numbered.{table}
use Rattle.survey.proofs.Orders.{on_some, first_key, first_equal}
use Rattle.survey.proofs.Picks.{pick, pick_key, pick_keys}

-- whether the leg is among the uses
abbrev pub among : ℕ → List LegUse → Bool
among leg us = names leg (map use_record us)

-- whether the circuit uses the leg, as a test of a map's pairs
abbrev pub uses_leg : ℕ → ℕ → Circuit → Bool
uses_leg leg _ c = among leg (vec_items c.legs)

abbrev pub used_in : ℕ → List Circuit → Bool
used_in leg [] = false
used_in leg (c ∷ cs) = among leg (vec_items c.legs) || used_in leg cs

abbrev pub unused_in : List Circuit → ℕ → Bool
unused_in cs leg = not (used_in leg cs)

-- ---- a loop over the uses
module _ (leg : ℕ) (xs : List LegUse) (i : ℕ) (u : LegUse) (l : i < length xs) (is : u ≡ get_or xs i u) where
  pub among_more : (u.leg.value ≡ leg → ⊥) → among leg (drop (i + 1) xs) ≡ among leg (drop i xs)
  among_more h =
      sym (at_drop_more (among leg) xs i u l ∙ ap (λ v. among leg (v ∷ drop (i + 1) xs)) (sym is) ∙ ap (λ b. b || among leg (drop (i + 1) xs)) (ne_eqb _ leg h))

  pub among_here : u.leg.value ≡ leg → among leg (drop i xs) ≡ true
  among_here h =
      at_drop_more (among leg) xs i u l ∙ ap (λ v. among leg (v ∷ drop (i + 1) xs)) (sym is) ∙ ap (λ b. b || among leg (drop (i + 1) xs)) (eq-eqb _ leg h)

pub among_none : (leg : ℕ) (xs : List LegUse) (i : ℕ) → length xs ≤ i → among leg (drop i xs) ≡ false
among_none leg xs i l = at_drop_all (among leg) xs i l

-- ---- a loop over the circuits
pub used_skip : (leg : ℕ) {cs ds : List Circuit} {x : Circuit} {r : Bool} → cs ≡ x ∷ ds → among leg (vec_items x.legs) ≡ false → used_in leg cs ≡ r → used_in leg ds ≡ r
used_skip leg {ds = ds} e misses h = sym (ap (used_in leg) e ∙ ap (λ b. b || used_in leg ds) misses) ∙ h

pub used_here : (leg : ℕ) {cs ds : List Circuit} {x : Circuit} {r : Bool} → cs ≡ x ∷ ds → among leg (vec_items x.legs) ≡ true → used_in leg cs ≡ r → r ≡ true
used_here leg {ds = ds} e hits h = sym h ∙ ap (used_in leg) e ∙ ap (λ b. b || used_in leg ds) hits

used_in_pick : (leg : ℕ) (es : List (ℕ × Circuit)) → used_in leg (values_of es) ≡ is_some (pick (uses_leg leg) es)
used_in_pick leg [] = refl
used_in_pick leg (e ∷ es) = go (among leg (vec_items e.1.legs)) (used_in_pick leg es)
  where
    go : (b : Bool) → used_in leg (values_of es) ≡ is_some (pick (uses_leg leg) es) → (b || used_in leg (values_of es)) ≡ is_some (cond b (Some e.0) (pick (uses_leg leg) es))
    go true rest = refl
    go false rest = rest

module _ {Q S : Type 0} (b : Book Q S) where
  circuit_tested : (leg : ℕ) (o : Option Circuit) → circuit_names leg (option_map circuit_record o) ≡ on_some (λ c. among leg (vec_items c.legs)) o
  circuit_tested leg None = refl
  circuit_tested leg (Some c) = refl

  pub user_is : (leg : ℕ) → user (surveyed b) leg ≡ pick (uses_leg leg) (b.circuits.entries)
  unfolding circuit_numbers
  user_is leg =
      first_equal (uses (surveyed b) leg) (λ n. on_some (uses_leg leg n) (table b.circuits n)) (range_with_len 1 32) (λ n. circuit_tested leg (table b.circuits n)) ∙ first_key 32 b.circuits b.circuits_numbered (uses_leg leg)

  used_is : (leg : ℕ) → is_some (user (surveyed b) leg) ≡ used_in leg (values b.circuits)
  used_is leg = ap is_some (user_is leg) ∙ sym (used_in_pick leg b.circuits.entries)

  leg_tested : (used : Bool) (o : Option Leg) → (is_some (option_map leg_record o) && not used) ≡ on_some (λ _. not used) o
  leg_tested used None = refl
  leg_tested used (Some l) = refl

  pub loose_is : loose_leg (surveyed b) ≡ pick_key (unused_in (values b.circuits)) (keys b.legs)
  unfolding leg_numbers
  loose_is =
      first_equal (loose (surveyed b)) (λ n. on_some (λ _. unused_in (values b.circuits) n) (table b.legs n)) (range_with_len 1 128)
      (λ n. ap (λ used. is_some (option_map leg_record (table b.legs n)) && not used) (used_is n) ∙ leg_tested (used_in n (values b.circuits)) (table b.legs n))
      ∙ first_key 128 b.legs b.legs_numbered (λ n _. unused_in (values b.circuits) n)
      ∙ sym (pick_keys (unused_in (values b.circuits)) b.legs.entries)

  stands : (o : Option Leg) → is_some (option_map leg_record o) ≡ on_some (λ _. true) o
  stands None = refl
  stands (Some l) = refl

  some_pick : (es : List (ℕ × Leg)) → is_some (pick (λ _ _. true) es) ≡ not (eqb (length es) 0)
  some_pick [] = refl
  some_pick (e ∷ es) = sym (ap not (ne_eqb (length (e ∷ es)) 0 (λ e. omega (arith, e))))

  -- a leg stands just where the map is not empty
  pub any_is : any_leg (surveyed b) ≡ not (eqb (length b.legs.entries) 0)
  unfolding leg_numbers
  any_is =
      ap is_some (first_equal (λ n. is_some ((surveyed b).legs n)) (λ n. on_some (λ _. true) (table b.legs n)) (range_with_len 1 128) (λ n. stands (table b.legs n)) ∙ first_key 128 b.legs b.legs_numbered (λ _ _. true))
      ∙ some_pick b.legs.entries
