-- Circuits and their words. Assumes nothing.
use Rattle.std.proofs.Common.{◌≡◌, not, ℕ, suc, ◌+◌, ◌-◌, ◌<◌, ◌≤◌, Bool, true, false, cond, List, [], ◌∷◌, ◌++◌, map, length, get_or, take, drop, is_some, Some, None, Ok, Err, Option, Result, sym, refl, ap, ◌∙◌, ap₂, arith, MatchOption}
use Rattle.std.specs.Option.{option_map}
use Rattle.std.specs.List.{slice_get, position, position_from}
use Rattle.std.proofs.lemmas.Iterator.Adapters.{position_from-zero}
use Rattle.std.proofs.lemmas.List.{at_drop_more, map_push, map_more, length-drop, take_rest}
use Rattle.std.proofs.lemmas.Bool.{and_from, le-leb, both_ways}
use Rattle.records.specs.declared.circuit.LegUse.{LegUse}
use Rattle.records.specs.declared.number.Number.{Number}
use Rattle.records.specs.declared.refusal.Reason.TheVariants.{Layout, Range}
use Rattle.records.specs.declared.refusal.Refusal.{Refusal}
use Rattle.records.specs.declared.word.Kind.TheVariants as kinds
use Rattle.records.specs.Layouts.{misplaced, circuit_layout, must}
use Rattle.records.specs.Lowest.{Lowest}
use Rattle.records.specs.Ranges.{is_leg_count}
use Rattle.records.specs.Refusals.{refusal, first, unless}
use Rattle.records.proofs.Lowest.{From, passed, stopped, from_zero}
use Rattle.records.proofs.Layouts.{next, no_more, refused_at}
use Rattle.records.specs.Circuits.{circuit_refusals, circuit_unranged, head_ranged, Unranged, LeastUnranged, UseRecord, use_record, use_read}
use Rattle.records.specs.Uses.{use_ranged, use_unranged}

-- a use is read just where it is in range
pub read_some : (o : Option LegUse) (b : Bool) (u : UseRecord) → option_map use_record o ≡ cond b (Some u) None → is_some o ≡ b
read_some None true u e = cc
read_some None false u e = refl
read_some (Some x) true u e = refl
read_some (Some x) false u e = cc

pub read_is : (x : LegUse) (b : Bool) (u : UseRecord) → option_map use_record (Some x) ≡ cond b (Some u) None → use_record x ≡ u
read_is x true u e = cc
read_is x false u e = let z : ◌≡◌ {A = ℕ} 0 1 = cc in absurd (omega arith)

-- ---- along the uses
module _ (ws : List ℕ) (i j : ℕ) (d : ℕ) (l : i < length ws) where
  pub in_range : use_ranged (get_or ws i d) ≡ true → use_unranged (suc j) (drop (i + 1) ws) ≡ use_unranged j (drop i ws)
  in_range e = sym (at_drop_more (use_unranged j) ws i d l ∙ ap (λ b. cond b (use_unranged (suc j) (drop (i + 1) ws)) (Some j)) e)

  pub unranged : use_ranged (get_or ws i d) ≡ false → use_unranged j (drop i ws) ≡ Some j
  unranged e = at_drop_more (use_unranged j) ws i d l ∙ ap (λ b. cond b (use_unranged (suc j) (drop (i + 1) ws)) (Some j)) e

-- the first use that is out of range, by its place among the uses
pub unranged_first : (ws : List ℕ) → use_unranged 2 ws ≡ option_map (λ i. 2 + i) (position (λ w. not (use_ranged w)) ws)
unranged_first ws = from 0 ws ∙ ap (option_map (λ i. 2 + i)) (sym (position_from-zero (λ w. not (use_ranged w)) ws))
  where
    chosen : (i : ℕ) (b : Bool) (o p : Option ℕ) → o ≡ option_map (λ i. 2 + i) p → cond b o (Some (2 + i)) ≡ option_map (λ i. 2 + i) (cond (not b) (Some i) p)
    chosen i true o p e = e
    chosen i false o p e = refl

    from : (i : ℕ) (ws : List ℕ) → use_unranged (2 + i) ws ≡ option_map (λ i. 2 + i) (position_from (λ w. not (use_ranged w)) i ws)
    from i [] = refl
    from i (w ∷ ws) =
        let next : suc (2 + i) ≡ 2 + (i + 1) = omega arith in
        chosen i (use_ranged w) _ _ (ap (λ j. use_unranged j ws) next ∙ from (i + 1) ws)

-- the next of uses that are all in range
pub still_ranged : (ws : List ℕ) (i j d : ℕ) → i < length ws → use_unranged j (drop i ws) ≡ None → (use_ranged (get_or ws i d) ≡ true) × (use_unranged (suc j) (drop (i + 1) ws) ≡ None)
still_ranged ws i j d l e = go (use_ranged (get_or ws i d)) refl
  where
    go : (b : Bool) → use_ranged (get_or ws i d) ≡ b → (use_ranged (get_or ws i d) ≡ true) × (use_unranged (suc j) (drop (i + 1) ws) ≡ None)
    go true h = (h, in_range ws i j d l h ∙ e)
    go false h = let z : ◌≡◌ {A = ℕ} 0 1 = cc (unranged ws i j d l h) in absurd (omega arith)

-- one more use, read
pub read_more : (us us' : List LegUse) (u : LegUse) (ws : List ℕ) (i d : ℕ) → i < length ws → us' ≡ us ++ (u ∷ []) → map use_record us ≡ map use_read (take i ws) →
    use_record u ≡ use_read (get_or ws i d) → map use_record us' ≡ map use_read (take (i + 1) ws)
read_more us us' u ws i d l pushed before here =
    ap (map use_record) pushed ∙ map_push use_record us u ∙ ap₂ (λ xs x. xs ++ (x ∷ [])) before here ∙ sym (map_more use_read ws i d l)

-- ---- what is made of the words
abbrev pub given : {A : Type 0} → A → List ℕ → Result A Refusal
given answer ws = unless (first (circuit_refusals ws)) answer

module _ (ws : List ℕ) where
  tried : {A : Type 0} (answer : A) (m u : Option ℕ) → misplaced 0 circuit_layout ws ≡ m → circuit_unranged ws ≡ u →
      given answer ws ≡ unless (first (refusal Layout m ∷ refusal Range u ∷ [])) answer
  tried answer m u p q = ap₂ (λ m u. unless (first (refusal Layout m ∷ refusal Range u ∷ [])) answer) p q

  pub layout_refused : {A : Type 0} (answer : A) (e : Refusal) → ◌≡◌ {A = Result (Unit {0}) Refusal} (Err e) (unless (refusal Layout (misplaced 0 circuit_layout ws)) tt) → given answer ws ≡ Err e
  layout_refused answer e h = let at = refused_at Layout _ e h in tried answer _ _ at.1 refl ∙ ap Err (sym at.2)

  module _ (laid : misplaced 0 circuit_layout ws ≡ None) where
    pub head_refused : {A : Type 0} (answer : A) → head_ranged (get_or ws 0 0) ≡ false → given answer ws ≡ Err (record { reason = Range; place = 0 })
    head_refused answer h = tried answer _ _ laid (ap (λ b. cond b (use_unranged 2 (drop 2 ws)) (Some 0)) h)

    pub uses_refused : {A : Type 0} (answer : A) (e : Refusal) → head_ranged (get_or ws 0 0) ≡ true → ◌≡◌ {A = Result (Unit {0}) Refusal} (Err e) (unless (refusal Range (use_unranged 2 (drop 2 ws))) tt) → given answer ws ≡ Err e
    uses_refused answer e h r =
        let at = refused_at Range _ e r in
        tried answer _ _ laid (ap (λ b. cond b (use_unranged 2 (drop 2 ws)) (Some 0)) h ∙ at.1) ∙ ap Err (sym at.2)

    pub circuit_taken : {A : Type 0} (answer : A) → head_ranged (get_or ws 0 0) ≡ true → use_unranged 2 (drop 2 ws) ≡ None → given answer ws ≡ Ok answer
    circuit_taken answer h u = tried answer _ _ laid (ap (λ b. cond b (use_unranged 2 (drop 2 ws)) (Some 0)) h ∙ u)

    pub three_up : 3 ≤ length ws
    three_up =
        let head = next 0 (must kinds.Circuit) (drop 1 circuit_layout) ws refl laid in
        let due = next 1 (must kinds.Due) (drop 2 circuit_layout) head.rest refl head.laid_rest in
        let leg = next 2 (must kinds.Use) (drop 3 circuit_layout) due.rest refl due.laid_rest in
        omega (arith, ap length head.is, ap length due.is, ap length leg.is)

    pub few_uses : length (take (length ws - 2) (drop 2 ws)) ≤ 16
    few_uses = let high = no_more 0 circuit_layout ws laid in let is = ap length (take_rest ws 2) ∙ length-drop 2 ws in omega arith

    pub counted : is_leg_count (length (drop 2 ws)) ≡ true
    counted =
        let low = three_up in
        let high = no_more 0 circuit_layout ws laid in
        let is = length-drop 2 ws in
        and_from _ _ (le-leb 1 (length (drop 2 ws)) (omega arith)) (le-leb (length (drop 2 ws)) 16 (omega arith))

pub head_read : (o : Option (Number 32)) (b : Bool) (n : ℕ) → option_map (λ n. n.value) o ≡ cond b (Some n) None → is_some o ≡ b
head_read None true n e = cc
head_read None false n e = refl
head_read (Some x) true n e = refl
head_read (Some x) false n e = cc

pub head_is : (x : Number 32) (b : Bool) (n : ℕ) → option_map (λ n. n.value) (Some x) ≡ cond b (Some n) None → x.value ≡ n
head_is x true n e = cc
head_is x false n e = let z : ◌≡◌ {A = ℕ} 0 1 = cc in absurd (omega arith)

-- ---- the index is the least
abbrev Bad : List ℕ → ℕ → Type 0
Bad ws i = MatchOption (slice_get ws i) ⊥ (λ w. use_ranged w ≡ false)

lowest_use : (j : ℕ) (ws : List ℕ) → Lowest (From j (Bad ws)) (use_unranged j ws)
lowest_use j [] = λ n h. h.2
lowest_use j (w ∷ ws) = go (use_ranged w) refl (lowest_use (suc j) ws)
  where
    go : (b : Bool) → use_ranged w ≡ b → Lowest (From (suc j) (Bad ws)) (use_unranged (suc j) ws) → Lowest (From j (Bad (w ∷ ws))) (cond b (use_unranged (suc j) ws) (Some j))
    go true e rest = passed j (Bad (w ∷ ws)) _ (λ h. both_ways (use_ranged w) h e) rest
    go false e rest = stopped j (Bad (w ∷ ws)) e

pub least_unranged : LeastUnranged
least_unranged ws = go (head_ranged (get_or ws 0 0)) refl
  where
    go : (b : Bool) → head_ranged (get_or ws 0 0) ≡ b → Lowest (Unranged ws) (cond b (use_unranged 2 (drop 2 ws)) (Some 0))
    go true e =
        let r = use_unranged 2 (drop 2 ws) in
        from_zero (Unranged ws) r (passed 0 (Unranged ws) r (λ h. both_ways (head_ranged (get_or ws 0 0)) h e) (passed 1 (λ k. Unranged ws (suc k)) r (λ h. h) (lowest_use 2 (drop 2 ws))))
    go false e = from_zero (Unranged ws) (Some 0) (stopped 0 (Unranged ws) e)

-- ---- words whose head was given
head_none : (b : Bool) (u : Option ℕ) → cond b u (Some 0) ≡ None → u ≡ None
head_none true u e = e
head_none false u e = cc

pub head_laid : (ws : List ℕ) → first (circuit_refusals ws) ≡ None → (misplaced 0 circuit_layout ws ≡ None) × (use_unranged 2 (drop 2 ws) ≡ None)
head_laid ws e = go (misplaced 0 circuit_layout ws) (circuit_unranged ws) refl refl e
  where
    go : (m u : Option ℕ) → misplaced 0 circuit_layout ws ≡ m → circuit_unranged ws ≡ u → first (refusal Layout m ∷ refusal Range u ∷ []) ≡ None → (misplaced 0 circuit_layout ws ≡ None) × (use_unranged 2 (drop 2 ws) ≡ None)
    go None None p q h = (p, head_none (head_ranged (get_or ws 0 0)) _ q)
    go None (Some i) p q h = let z : ◌≡◌ {A = ℕ} 0 1 = cc in absurd (omega arith)
    go (Some i) u p q h = let z : ◌≡◌ {A = ℕ} 0 1 = cc in absurd (omega arith)

-- ---- what a result that was seen says
pub seen_err : {B : Type 0} (o : Option Refusal) (answer : B) (e : Refusal) → Err e ≡ unless o answer → o ≡ Some e
seen_err None answer e h = let z : ◌≡◌ {A = ℕ} 0 1 = cc in absurd (omega arith)
seen_err (Some r) answer e h = cc

pub seen_ok : {B : Type 0} (o : Option Refusal) (answer a : B) → Ok a ≡ unless o answer → (o ≡ None) × (a ≡ answer)
seen_ok None answer a h = (refl, cc)
seen_ok (Some r) answer a h = let z : ◌≡◌ {A = ℕ} 0 1 = cc in absurd (omega arith)
