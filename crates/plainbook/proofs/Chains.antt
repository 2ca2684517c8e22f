-- Circuits whose legs stand and chain. Assumes nothing.
use Rattle.std.proofs.Common.{◌≡◌, ℕ, suc, true, false, not, eqb, List, [], ◌∷◌, ◌++◌, is_some, Some, None, Option, sym, refl, ap, ◌∙◌, subst, ap₂}
use Rattle.std.specs.Option.{option_map, option_to_list}
use Rattle.std.proofs.lemmas.Bool.{eqb-true, not-false, or_parts, or_from, both_ways, eqb-false, ne_eqb, false≢true}
use Rattle.records.specs.declared.refusal.Reason.TheVariants.{Absent, Twice, Broken}
use Rattle.records.specs.declared.refusal.Refusal.{Refusal}
use Rattle.records.specs.Circuits.{UseRecord}
use Rattle.records.specs.Legs.{LegRecord}
use Rattle.records.specs.Refusals.{first}
use Rattle.plainbook.specs.Accepted.{AllStand, NoneTwice, Follows}
use Rattle.plainbook.specs.Refusals.{chain_refusals, breaks, refused_if}
use Rattle.plainbook.specs.Surveys.{Run, runs, run_of, ends, names}
use Rattle.plainbook.proofs.Firsts.{first_none, not_if}

abbrev Chained : (ℕ → Option LegRecord) → Option ℕ → List UseRecord → Type 0
Chained legs at us = AllStand legs us × Follows at (runs legs us)

unbroken : (at : Option ℕ) (r : Run) (rs : List Run) → breaks at (Some r) ≡ false → Follows (Some (ends r.sense r.leg)) rs → Follows at (r ∷ rs)
unbroken None r rs e rest = rest
unbroken (Some n) r rs e rest = (eqb-true _ _ (not-false _ e), rest)

-- what a chain that is not refused says of its first leg, and of the rest
chain_parts : (legs : ℕ → Option LegRecord) (before : List UseRecord) (at : Option ℕ) (i : ℕ) (u : UseRecord) (us : List UseRecord) → first (chain_refusals legs before at i (u ∷ us)) ≡ None →
    (is_some (legs u.leg) ≡ true) × (names u.leg before ≡ false) × (breaks at (run_of u (legs u.leg)) ≡ false)
    × (first (chain_refusals legs (u ∷ before) (option_map (λ r. ends r.sense r.leg) (run_of u (legs u.leg))) (suc i) us) ≡ None)
chain_parts legs before at i u us e =
    let run = run_of u (legs u.leg) in
    let rest = chain_refusals legs (u ∷ before) (option_map (λ r. ends r.sense r.leg) run) (suc i) us in
    let broken = refused_if Broken i (breaks at run) ∷ rest in
    let p0 = first_none (refused_if Absent i (not (is_some (legs u.leg)))) (refused_if Twice i (names u.leg before) ∷ broken) e in
    let p1 = first_none (refused_if Twice i (names u.leg before)) broken p0.1 in
    let p2 = first_none (refused_if Broken i (breaks at run)) rest p1.1 in
    (not-false _ (not_if Absent i _ p0.0), not_if Twice i _ p1.0, not_if Broken i _ p2.0, p2.1)

-- a chain that is not refused: its legs stand, and each begins where the one before it ended
pub chained : (legs : ℕ → Option LegRecord) (before : List UseRecord) (at : Option ℕ) (i : ℕ) (us : List UseRecord) → first (chain_refusals legs before at i us) ≡ None → Chained legs at us
chained legs before at i [] e = (tt, tt)
chained legs before at i (u ∷ us) e =
    let p = chain_parts legs before at i u us e in go (legs u.leg) refl p.0 p.2 (λ n f. chained legs (u ∷ before) (Some n) (suc i) us f) p.3
  where
    go : (o : Option LegRecord) → legs u.leg ≡ o → is_some o ≡ true → breaks at (run_of u o) ≡ false → ((n : ℕ) → first (chain_refusals legs (u ∷ before) (Some n) (suc i) us) ≡ None → Chained legs (Some n) us) →
        first (chain_refusals legs (u ∷ before) (option_map (λ r. ends r.sense r.leg) (run_of u o)) (suc i) us) ≡ None → Chained legs at (u ∷ us)
    go None is some ok rest f = absurd (false≢true some)
    go (Some l) is some ok rest f =
        let r : Run = record { leg = l; sense = u.sense } in
        let tail = rest (ends u.sense l) f in
        ((ap is_some is, tail.0), subst (λ o. Follows at (option_to_list (run_of u o) ++ runs legs us)) (sym is) (unbroken at r (runs legs us) ok tail.1))

-- the legs of the second list are not among the first's
abbrev Apart : (before us : List UseRecord) → Type 0
Apart before [] = Unit {0}
Apart before (u ∷ us) = (names u.leg before ≡ false) × Apart before us

apart_one : (u : UseRecord) (before us : List UseRecord) → Apart (u ∷ before) us → (names u.leg us ≡ false) × Apart before us
apart_one u before [] h = (refl, tt)
apart_one u before (v ∷ us) h =
    let here = or_parts (eqb u.leg v.leg) (names v.leg before) h.0 in
    let rest = apart_one u before us h.1 in
    (or_from _ _ (ne_eqb _ _ (λ e. eqb-false u.leg v.leg here.0 (sym e))) rest.0, (here.1, rest.1))

-- and no leg is named twice
pub not_twice : (legs : ℕ → Option LegRecord) (before : List UseRecord) (at : Option ℕ) (i : ℕ) (us : List UseRecord) → first (chain_refusals legs before at i us) ≡ None → Apart before us × NoneTwice us
not_twice legs before at i [] e = (tt, tt)
not_twice legs before at i (u ∷ us) e =
    let p = chain_parts legs before at i u us e in
    let rest = not_twice legs (u ∷ before) _ (suc i) us p.3 in
    let here = apart_one u before us rest.0 in
    ((p.1, here.1), (here.0, rest.1))

-- ---- what a chain looks at
-- the same of the legs that are named
abbrev pub SameLegs : (f g : ℕ → Option LegRecord) → List UseRecord → Type 0
SameLegs f g [] = Unit {0}
SameLegs f g (u ∷ us) = (f u.leg ≡ g u.leg) × SameLegs f g us

pub chain_same : (f g : ℕ → Option LegRecord) (before : List UseRecord) (at : Option ℕ) (i : ℕ) (us : List UseRecord) → SameLegs f g us → chain_refusals f before at i us ≡ chain_refusals g before at i us
chain_same f g before at i [] e = refl
chain_same f g before at i (u ∷ us) e =
    let rest : (n : Option ℕ) → chain_refusals f (u ∷ before) n (suc i) us ≡ chain_refusals g (u ∷ before) n (suc i) us = λ n. chain_same f g (u ∷ before) n (suc i) us e.1 in
    ap (λ o. shown o f) e.0 ∙ ap (λ more. refused_if Absent i (not (is_some (g u.leg))) ∷ (refused_if Twice i (names u.leg before) ∷ (refused_if Broken i (breaks at (run_of u (g u.leg))) ∷ more))) (rest _)
  where
    shown : Option LegRecord → (ℕ → Option LegRecord) → List (Option Refusal)
    shown o legs =
        refused_if Absent i (not (is_some o))
        ∷ (refused_if Twice i (names u.leg before)
        ∷ (refused_if Broken i (breaks at (run_of u o)) ∷ chain_refusals legs (u ∷ before) (option_map (λ r. ends r.sense r.leg) (run_of u o)) (suc i) us))

pub runs_same : (f g : ℕ → Option LegRecord) (us : List UseRecord) → SameLegs f g us → runs f us ≡ runs g us
runs_same f g [] e = refl
runs_same f g (u ∷ us) e = ap₂ (λ o rs. option_to_list (run_of u o) ++ rs) e.0 (runs_same f g us e.1)

pub stand_same : (f g : ℕ → Option LegRecord) (us : List UseRecord) → SameLegs f g us → AllStand f us → AllStand g us
stand_same f g [] e h = tt
stand_same f g (u ∷ us) e h = (ap is_some (sym e.0) ∙ h.0, stand_same f g us e.1 h.1)

-- a change at a number that does not stand, or that is not named
pub kept_absent : (f g : ℕ → Option LegRecord) (n : ℕ) (us : List UseRecord) → is_some (f n) ≡ false → ((m : ℕ) → (m ≡ n → ⊥) → f m ≡ g m) → AllStand f us → SameLegs f g us
kept_absent f g n [] none same stand = tt
kept_absent f g n (u ∷ us) none same stand =
    (same u.leg (λ e. both_ways _ none (ap (λ m. is_some (f m)) (sym e) ∙ stand.0)), kept_absent f g n us none same stand.1)

pub kept_unnamed : (f g : ℕ → Option LegRecord) (n : ℕ) (us : List UseRecord) → names n us ≡ false → ((m : ℕ) → (m ≡ n → ⊥) → f m ≡ g m) → SameLegs f g us
kept_unnamed f g n [] e same = tt
kept_unnamed f g n (u ∷ us) e same =
    let p = or_parts (eqb u.leg n) (names n us) e in (same u.leg (eqb-false _ _ p.0), kept_unnamed f g n us p.1 same)
