-- Leg by leg along a circuit that is to be joined. Assumes nothing.
use Rattle.std.proofs.Common.{◌≡◌, ℕ, zero, suc, ◌+◌, ◌<◌, ◌≤◌, Bool, true, false, not, ◌||◌, eqb, List, [], ◌∷◌, ◌++◌, map, reverse, length, get_or, take, drop, is_some, Some, None, Option, sym, refl, ap, ◌∙◌, ap₂, arith}
use Rattle.std.specs.Option.{option_map, option_to_list}
use Rattle.std.proofs.lemmas.List.{at_drop_all, drop_more, take_more, map_push, reverse-append}
use Rattle.records.specs.declared.refusal.Reason.TheVariants.{Absent, Twice, Broken}
use Rattle.records.specs.declared.refusal.Refusal.{Refusal}
use Rattle.records.specs.Circuits.{UseRecord, use_read}
use Rattle.records.specs.Uses.{use_unranged, use_ranged}
use Rattle.records.specs.Legs.{LegRecord}
use Rattle.records.specs.Refusals.{first}
use Rattle.records.proofs.Circuits.{still_ranged}
use Rattle.plainbook.specs.Refusals.{chain_refusals, breaks, refused_if}
use Rattle.plainbook.specs.Surveys.{Run, runs, run_of, ends, names}
use Rattle.survey.proofs.Outcomes.{first_after, first_at, refused_where, not_refused}

-- ---- words that are all in range are so one by one
pub ranged_at : (ws : List ℕ) (i : ℕ) → i < length ws → (j : ℕ) → use_unranged j ws ≡ None → use_ranged (get_or ws i 0) ≡ true
ranged_at [] i l j e = absurd (omega arith)
ranged_at (w ∷ ws) zero l j e = (still_ranged (w ∷ ws) 0 j 0 (omega arith) e).0
ranged_at (w ∷ ws) (suc i) l j e = ranged_at ws i (omega arith) (suc j) (still_ranged (w ∷ ws) 0 j 0 (omega arith) e).1

-- ---- what a use runs, given what was found
pub run_gone : (u : UseRecord) (o : Option LegRecord) → run_of u o ≡ None → o ≡ None
run_gone u None e = refl
run_gone u (Some l) e = let z : ◌≡◌ {A = ℕ} 0 1 = cc in absurd (omega arith)

pub run_found : (legs : ℕ → Option LegRecord) (u v : UseRecord) (r : Run) → u ≡ v → Some r ≡ run_of u (legs u.leg) → (legs v.leg ≡ Some r.leg) × (r ≡ record { leg = r.leg; sense = v.sense })
run_found legs u v r is e = go (legs u.leg) refl e
  where
    go : (o : Option LegRecord) → legs u.leg ≡ o → Some r ≡ run_of u o → (legs v.leg ≡ Some r.leg) × (r ≡ record { leg = r.leg; sense = v.sense })
    go None p h = let z : ◌≡◌ {A = ℕ} 0 1 = cc in absurd (omega arith)
    go (Some l) p h =
        let same : r ≡ record { leg = l; sense = u.sense } = cc in
        (ap (λ (u : UseRecord). legs u.leg) (sym is) ∙ p ∙ ap (λ (r : Run). Some r.leg) (sym same), λ i. record { leg = r.leg; sense = (ap (λ (r : Run). r.sense) same ∙ ap (λ (u : UseRecord). u.sense) is) i })

-- ---- names, in whatever order
names_append : (n : ℕ) (xs ys : List UseRecord) → names n (xs ++ ys) ≡ (names n xs || names n ys)
names_append n [] ys = refl
names_append n (x ∷ xs) ys = ap (λ b. eqb x.leg n || b) (names_append n xs ys) ∙ or_assoc (eqb x.leg n) (names n xs) (names n ys)
  where
    or_assoc : (a b c : Bool) → (a || (b || c)) ≡ ((a || b) || c)
    or_assoc true b c = refl
    or_assoc false b c = refl

or_comm : (a b : Bool) → (a || b) ≡ (b || a)
or_comm true true = refl
or_comm true false = refl
or_comm false true = refl
or_comm false false = refl

or_false : (a : Bool) → (a || false) ≡ a
or_false true = refl
or_false false = refl

pub names_reverse : (n : ℕ) (xs : List UseRecord) → names n (reverse xs) ≡ names n xs
names_reverse n [] = refl
names_reverse n (x ∷ xs) =
    ap (names n) (reverse-append (x ∷ []) xs)
    ∙ names_append n (reverse xs) (x ∷ [])
    ∙ ap₂ ◌||◌ (names_reverse n xs) (or_false (eqb x.leg n))
    ∙ or_comm (names n xs) (eqb x.leg n)

-- ---- one leg
module _ (legs : ℕ → Option LegRecord) (before : List UseRecord) (i : ℕ) (u : UseRecord) (us : List UseRecord) where
  abbrev rest_from : Option ℕ → Option LegRecord → List (Option Refusal)
  rest_from at o =
      refused_if Absent i (not (is_some o))
      ∷ (refused_if Twice i (names u.leg before)
      ∷ (refused_if Broken i (breaks at (run_of u o)) ∷ chain_refusals legs (u ∷ before) (option_map (λ r. ends r.sense r.leg) (run_of u o)) (suc i) us))

  pub absent_first : (at : Option ℕ) → legs u.leg ≡ None → first (chain_refusals legs before at i (u ∷ us)) ≡ Some (record { reason = Absent; place = i })
  absent_first at e = ap (λ o. first (rest_from at o)) e

  module _ (l : LegRecord) (stands : legs u.leg ≡ Some l) where
    pub twice_first : (at : Option ℕ) → names u.leg before ≡ true → first (chain_refusals legs before at i (u ∷ us)) ≡ Some (record { reason = Twice; place = i })
    twice_first at e = ap (λ o. first (rest_from at o)) stands ∙ first_at (refused_if Twice i (names u.leg before)) _ _ (refused_where Twice i _ e)

    pub broken_first : (at : Option ℕ) → names u.leg before ≡ false → breaks at (Some (record { leg = l; sense = u.sense })) ≡ true → first (chain_refusals legs before at i (u ∷ us)) ≡ Some (record { reason = Broken; place = i })
    broken_first at once e =
        ap (λ o. first (rest_from at o)) stands
        ∙ first_after (refused_if Twice i (names u.leg before)) _ (not_refused Twice i _ once)
        ∙ first_at (refused_if Broken i (breaks at (Some (record { leg = l; sense = u.sense })))) _ _ (refused_where Broken i _ e)

    pub next_first : (at : Option ℕ) → names u.leg before ≡ false → breaks at (Some (record { leg = l; sense = u.sense })) ≡ false →
        first (chain_refusals legs before at i (u ∷ us)) ≡ first (chain_refusals legs (u ∷ before) (Some (ends u.sense l)) (suc i) us)
    next_first at once e =
        ap (λ o. first (rest_from at o)) stands
        ∙ first_after (refused_if Twice i (names u.leg before)) _ (not_refused Twice i _ once)
        ∙ first_after (refused_if Broken i (breaks at (Some (record { leg = l; sense = u.sense })))) _ (not_refused Broken i _ e)

    pub runs_first : runs legs (u ∷ us) ≡ record { leg = l; sense = u.sense } ∷ runs legs us
    runs_first = ap (λ o. option_to_list (run_of u o) ++ runs legs us) stands

-- ---- along the words
abbrev pub before : List ℕ → ℕ → List UseRecord
before ws i = reverse (map use_read (take i ws))

abbrev pub later : List ℕ → ℕ → List UseRecord
later ws i = map use_read (drop i ws)

-- the first refusal from an index on
abbrev pub chain_left : (ℕ → Option LegRecord) → List ℕ → ℕ → Option ℕ → Option Refusal
chain_left legs ws i at = first (chain_refusals legs (before ws i) at (2 + i) (later ws i))

module _ (ws : List ℕ) (i : ℕ) (h : i < length ws) where
  later_is : later ws i ≡ use_read (get_or ws i 0) ∷ later ws (i + 1)
  later_is = ap (map use_read) (drop_more ws i 0 h)

  before_is : before ws (i + 1) ≡ use_read (get_or ws i 0) ∷ before ws i
  before_is = ap (λ xs. reverse (map use_read xs)) (take_more ws i 0 h) ∙ ap reverse (map_push use_read (take i ws) (get_or ws i 0)) ∙ reverse-append (map use_read (take i ws)) (use_read (get_or ws i 0) ∷ [])

  module _ (legs : ℕ → Option LegRecord) where
    abbrev here : UseRecord
    here = use_read (get_or ws i 0)

    opened : (at : Option ℕ) → chain_left legs ws i at ≡ first (chain_refusals legs (before ws i) at (2 + i) (here ∷ later ws (i + 1)))
    opened at = ap (λ us. first (chain_refusals legs (before ws i) at (2 + i) us)) later_is

    shut : (at : Option ℕ) → first (chain_refusals legs (here ∷ before ws i) at (suc (2 + i)) (later ws (i + 1))) ≡ chain_left legs ws (i + 1) at
    shut at = let n : suc (2 + i) ≡ 2 + (i + 1) = omega arith in ap₂ (λ b n. first (chain_refusals legs b at n (later ws (i + 1)))) (sym before_is) n

    pub left_absent : (at : Option ℕ) → legs here.leg ≡ None → chain_left legs ws i at ≡ Some (record { reason = Absent; place = 2 + i })
    left_absent at e = opened at ∙ absent_first legs (before ws i) (2 + i) here (later ws (i + 1)) at e

    named_before : (n : ℕ) → names n (before ws i) ≡ names n (map use_read (take i ws))
    named_before n = names_reverse n (map use_read (take i ws))

    module _ (l : LegRecord) (stands : legs here.leg ≡ Some l) where
      pub left_twice : (at : Option ℕ) → names here.leg (map use_read (take i ws)) ≡ true → chain_left legs ws i at ≡ Some (record { reason = Twice; place = 2 + i })
      left_twice at e = opened at ∙ twice_first legs (before ws i) (2 + i) here (later ws (i + 1)) l stands at (named_before here.leg ∙ e)

      pub left_broken : (at : Option ℕ) → names here.leg (map use_read (take i ws)) ≡ false → breaks at (Some (record { leg = l; sense = here.sense })) ≡ true → chain_left legs ws i at ≡ Some (record { reason = Broken; place = 2 + i })
      left_broken at once e = opened at ∙ broken_first legs (before ws i) (2 + i) here (later ws (i + 1)) l stands at (named_before here.leg ∙ once) e

      pub left_next : (at : Option ℕ) → names here.leg (map use_read (take i ws)) ≡ false → breaks at (Some (record { leg = l; sense = here.sense })) ≡ false → chain_left legs ws i at ≡ chain_left legs ws (i + 1) (Some (ends here.sense l))
      left_next at once e = opened at ∙ next_first legs (before ws i) (2 + i) here (later ws (i + 1)) l stands at (named_before here.leg ∙ once) e ∙ shut (Some (ends here.sense l))

      pub runs_next : runs legs (later ws i) ≡ record { leg = l; sense = here.sense } ∷ runs legs (later ws (i + 1))
      runs_next = ap (runs legs) later_is ∙ runs_first legs (before ws i) (2 + i) here (later ws (i + 1)) l stands

pub left_over : (legs : ℕ → Option LegRecord) (ws : List ℕ) (i : ℕ) (at : Option ℕ) → length ws ≤ i → chain_left legs ws i at ≡ None
left_over legs ws i at h = ap (λ us. first (chain_refusals legs (before ws i) at (2 + i) us)) (at_drop_all (map use_read) ws i h)
