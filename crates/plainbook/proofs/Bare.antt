-- Runs without their legs' numbers: nothing that is found rests on a number. Assumes nothing.
use Rattle.std.proofs.Common.{◌≡◌, ℕ, ◌+◌, cond, eqb, List, [], ◌∷◌, ◌++◌, map, is_some, Some, None, Option, sym, refl, ap, ◌∙◌, subst, ap₂, arith}
use Rattle.std.specs.Option.{option_to_list}
use Rattle.std.proofs.lemmas.List.{length-map}
use Rattle.records.specs.declared.circuit.Sense.{Sense}
use Rattle.records.specs.declared.circuit.Sense.TheVariants.{Along, Against}
use Rattle.records.specs.Circuits.{UseRecord}
use Rattle.records.specs.Legs.{LegRecord, running}
use Rattle.quantities.specs.Sums.{total}
use Rattle.quantities.specs.Terms.{Terms}
use Rattle.plainbook.specs.Accepted.{AllStand, Follows}
use Rattle.plainbook.specs.Findings.{total_length, joined, circuit_running, contribution, own_misclosure, runs_finding}
use Rattle.plainbook.specs.Rewritings.{renumbered_leg, renamed_use}
use Rattle.plainbook.specs.Surveys.{Run, runs, run_of, begins, ends, last_node, closed}
use Rattle.plainbook.proofs.NoLower.{some_is}
use Rattle.plainbook.proofs.Turns.{same_finding}

abbrev bare : Run → Run
bare r = record { leg = renumbered_leg 0 r.leg; sense = r.sense }

begins_bare : (r : Run) → begins r.sense (renumbered_leg 0 r.leg) ≡ begins r.sense r.leg
begins_bare r = go r.sense
  where
    go : (s : Sense) → begins s (renumbered_leg 0 r.leg) ≡ begins s r.leg
    go Along = refl
    go Against = refl

ends_bare : (r : Run) → ends r.sense (renumbered_leg 0 r.leg) ≡ ends r.sense r.leg
ends_bare r = go r.sense
  where
    go : (s : Sense) → ends s (renumbered_leg 0 r.leg) ≡ ends s r.leg
    go Along = refl
    go Against = refl

last_bare : (m n : ℕ) (rs : List Run) → m ≡ n → last_node m (map bare rs) ≡ last_node n rs
last_bare m n [] e = e
last_bare m n (r ∷ rs) e = last_bare _ _ rs (ends_bare r)

closed_bare : (rs : List Run) → closed (map bare rs) ≡ closed rs
closed_bare [] = refl
closed_bare (r ∷ rs) = ap₂ eqb (begins_bare r) (last_bare _ _ rs (ends_bare r))

length_bare : (rs : List Run) → total_length (map bare rs) ≡ total_length rs
length_bare [] = refl
length_bare (r ∷ rs) = ap (λ n. r.leg.length.metres + n) (length_bare rs)

running_bare : (rs : List Run) → circuit_running (map bare rs) ≡ circuit_running rs
running_bare [] = refl
running_bare (r ∷ rs) = ap (joined (running r.leg.back)) (running_bare rs)

follows_bare : (m n : Option ℕ) (rs : List Run) → m ≡ n → Follows n rs → Follows m (map bare rs)
follows_bare m n [] e h = tt
follows_bare None None (r ∷ rs) e h = follows_bare _ _ rs (ap Some (ends_bare r)) h
follows_bare None (Some n) (r ∷ rs) e h = follows_bare _ _ rs (ap Some (ends_bare r)) h.1
follows_bare (Some m) None (r ∷ rs) e h = absurd (none_some (sym e))
  where
    none_some : ◌≡◌ {A = Option ℕ} None (Some m) → ⊥
    none_some f = let z : ◌≡◌ {A = ℕ} 0 1 = cc in omega arith
follows_bare (Some m) (Some n) (r ∷ rs) e h = (some_same e ∙ h.0 ∙ sym (begins_bare r), follows_bare _ _ rs (ap Some (ends_bare r)) h.1)
  where
    some_same : Some m ≡ Some n → m ≡ n
    some_same f = cc

follows_worn : (m n : Option ℕ) (rs : List Run) → m ≡ n → Follows m (map bare rs) → Follows n rs
follows_worn m n [] e h = tt
follows_worn None None (r ∷ rs) e h = follows_worn _ _ rs (ap Some (ends_bare r)) h
follows_worn (Some m) None (r ∷ rs) e h = follows_worn _ _ rs (ap Some (ends_bare r)) h.1
follows_worn None (Some n) (r ∷ rs) e h = absurd (none_some e)
  where
    none_some : ◌≡◌ {A = Option ℕ} None (Some n) → ⊥
    none_some f = let z : ◌≡◌ {A = ℕ} 0 1 = cc in omega arith
follows_worn (Some m) (Some n) (r ∷ rs) e h = (sym (some_same e) ∙ h.0 ∙ begins_bare r, follows_worn _ _ rs (ap Some (ends_bare r)) h.1)
  where
    some_same : Some m ≡ Some n → m ≡ n
    some_same f = cc

-- ---- legs under new numbers
module _ (f g : ℕ → Option LegRecord) (to : ℕ → ℕ) (there : (n : ℕ) (l : LegRecord) → f n ≡ Some l → g (to n) ≡ Some (renumbered_leg (to n) l)) where
  runs_bare : (us : List UseRecord) → AllStand f us → map bare (runs g (map (renamed_use to) us)) ≡ map bare (runs f us)
  runs_bare [] h = refl
  runs_bare (u ∷ us) h =
      let l = some_is (f u.leg) h.0 in
      ap₂ (λ o rs. map bare (option_to_list (run_of (renamed_use to u) o) ++ rs)) (there u.leg l.0 l.1) refl
      ∙ ap (λ rs. bare (record { leg = l.0; sense = u.sense }) ∷ rs) (runs_bare us h.1)
      ∙ sym (ap (λ o. map bare (option_to_list (run_of u o) ++ runs f us)) l.1)

  pub stand_renamed : (us : List UseRecord) → AllStand f us → AllStand g (map (renamed_use to) us)
  stand_renamed [] h = tt
  stand_renamed (u ∷ us) h = let l = some_is (f u.leg) h.0 in (ap is_some (there u.leg l.0 l.1), stand_renamed us h.1)

  pub follows_renamed : (us : List UseRecord) → AllStand f us → Follows None (runs f us) → Follows None (runs g (map (renamed_use to) us))
  follows_renamed us h k = follows_worn None None (runs g (map (renamed_use to) us)) refl (subst (Follows None) (sym (runs_bare us h)) (follows_bare None None (runs f us) refl k))

  module _ {Element : Type 0} (q : Terms Element) where
    total_bare : (h : Run → Element) → ((r : Run) → h (bare r) ≡ h r) → (rs : List Run) → total q (map h (map bare rs)) ≡ total q (map h rs)
    total_bare h e [] = refl
    total_bare h e (r ∷ rs) = ap₂ q.plus (e r) (total_bare h e rs)

    found_bare : (rs : List Run) (due : ℕ) → runs_finding q (map bare rs) due ≡ runs_finding q rs due
    found_bare rs due =
        same_finding q (map bare rs) rs due due (closed_bare rs) (length-map rs bare) (length_bare rs) (running_bare rs)
        (ap₂ (λ b x. cond b (q.size (q.plus x (q.opposite (q.due due)))) 0) (closed_bare rs) (total_bare (contribution q) (λ r. refl) rs))
        (ap q.size (total_bare (λ r. own_misclosure q r.leg) (λ r. refl) rs))

    pub found_renamed : (us : List UseRecord) (due : ℕ) → AllStand f us → runs_finding q (runs g (map (renamed_use to) us)) due ≡ runs_finding q (runs f us) due
    found_renamed us due h =
        sym (found_bare (runs g (map (renamed_use to) us)) due) ∙ ap (λ rs. runs_finding q rs due) (runs_bare us h) ∙ found_bare (runs f us) due
