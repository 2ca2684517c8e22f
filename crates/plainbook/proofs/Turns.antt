-- Runs begun elsewhere and runs turned round: they still chain, close as before and are found the same. Assumes nothing.
use Rattle.std.proofs.Common.{◌≡◌, ℕ, ◌+◌, Bool, true, false, cond, eqb, List, [], ◌∷◌, ◌++◌, map, reverse, length, Some, None, Option, sym, refl, ap, ◌∙◌, subst, ap₂, add_assoc, add_comm, zero-add}
use Rattle.std.specs.Option.{option_to_list}
use Rattle.std.proofs.lemmas.List.{append-nil, append_assoc, reverse-append, length-append, length-reverse, length-map}
use Rattle.std.proofs.lemmas.Bool.{eqb-true, eq-eqb, false≢true}
use Rattle.records.specs.declared.circuit.Sense.{Sense}
use Rattle.records.specs.declared.circuit.Sense.TheVariants.{Along, Against}
use Rattle.records.specs.declared.leg.Running.{Running}
use Rattle.records.specs.declared.leg.Running.TheVariants.{Single, Double}
use Rattle.records.specs.Circuits.{UseRecord}
use Rattle.records.specs.Legs.{LegRecord, running}
use Rattle.quantities.specs.Sums.{total, as_run}
use Rattle.quantities.specs.Terms.{Terms}
use Rattle.plainbook.specs.Accepted.{Follows, Linked}
use Rattle.plainbook.specs.Findings.{total_length, joined, circuit_running, contribution, own_misclosure, closure, summed_misclosure, closure_size, runs_finding}
use Rattle.plainbook.specs.Rewritings.{turned_sense, turned_use, turned}
use Rattle.plainbook.specs.Surveys.{Run, runs, run_of, begins, ends, last_node, closed}
use Rattle.plainbook.proofs.Folds.{Monoid, fold, fold_swap, fold_reverse, fold_map}
use Rattle.plainbook.proofs.Opposites.{sums, total_fold, total_opposite, opposite_plus, opposite_twice}

abbrev pub turn : Run → Run
turn r = record { leg = r.leg; sense = turned_sense r.sense }

turn_begins : (r : Run) → begins (turn r).sense (turn r).leg ≡ ends r.sense r.leg
turn_begins r = go r.sense
  where
    go : (s : Sense) → begins (turned_sense s) r.leg ≡ ends s r.leg
    go Along = refl
    go Against = refl

turn_ends : (r : Run) → ends (turn r).sense (turn r).leg ≡ begins r.sense r.leg
turn_ends r = go r.sense
  where
    go : (s : Sense) → ends (turned_sense s) r.leg ≡ begins s r.leg
    go Along = refl
    go Against = refl

abbrev pub backward : List Run → List Run
backward rs = reverse (map turn rs)

backward_cons : (r : Run) (rs : List Run) → backward (r ∷ rs) ≡ backward rs ++ (turn r ∷ [])
backward_cons r rs = reverse-append (turn r ∷ []) (map turn rs)

-- ---- runs of uses
pub runs_append : (legs : ℕ → Option LegRecord) (xs ys : List UseRecord) → runs legs (xs ++ ys) ≡ runs legs xs ++ runs legs ys
runs_append legs [] ys = refl
runs_append legs (x ∷ xs) ys = ap (λ rs. option_to_list (run_of x (legs x.leg)) ++ rs) (runs_append legs xs ys) ∙ sym (append_assoc (option_to_list (run_of x (legs x.leg))) (runs legs xs) (runs legs ys))

pub runs_turned : (legs : ℕ → Option LegRecord) (us : List UseRecord) → runs legs (turned us) ≡ backward (runs legs us)
runs_turned legs [] = refl
runs_turned legs (u ∷ us) =
    ap (runs legs) (reverse-append (turned_use u ∷ []) (map turned_use us))
    ∙ runs_append legs (turned us) (turned_use u ∷ [])
    ∙ ap₂ (λ xs ys. xs ++ ys) (runs_turned legs us) (one (legs u.leg))
    ∙ joint (legs u.leg)
  where
    one : (o : Option LegRecord) → option_to_list (run_of (turned_use u) o) ++ [] ≡ map turn (option_to_list (run_of u o))
    one None = refl
    one (Some l) = refl

    joint : (o : Option LegRecord) → backward (runs legs us) ++ map turn (option_to_list (run_of u o)) ≡ backward (option_to_list (run_of u o) ++ runs legs us)
    joint None = append-nil (backward (runs legs us))
    joint (Some l) = sym (backward_cons (record { leg = l; sense = u.sense }) (runs legs us))

-- ---- where runs begin and end
abbrev head_node : ℕ → List Run → ℕ
head_node n [] = n
head_node n (r ∷ rs) = begins r.sense r.leg

last_append : (n : ℕ) (xs : List Run) (r : Run) → last_node n (xs ++ (r ∷ [])) ≡ ends r.sense r.leg
last_append n [] r = refl
last_append n (x ∷ xs) r = last_append (ends x.sense x.leg) xs r

head_append : (n : ℕ) (xs : List Run) (r : Run) → head_node n (xs ++ (r ∷ [])) ≡ head_node (begins r.sense r.leg) xs
head_append n [] r = refl
head_append n (x ∷ xs) r = refl

head_backward : (n : ℕ) (rs : List Run) → head_node n (backward rs) ≡ last_node n rs
head_backward n [] = refl
head_backward n (r ∷ rs) =
    ap (head_node n) (backward_cons r rs) ∙ head_append n (backward rs) (turn r) ∙ ap (λ m. head_node m (backward rs)) (turn_begins r) ∙ head_backward (ends r.sense r.leg) rs

last_backward : (n : ℕ) (rs : List Run) → last_node n (backward rs) ≡ head_node n rs
last_backward n [] = refl
last_backward n (r ∷ rs) = ap (last_node n) (backward_cons r rs) ∙ last_append n (backward rs) (turn r) ∙ turn_ends r

-- closed, by the two ends
abbrev some_run : List Run → Bool
some_run [] = false
some_run (r ∷ rs) = true

closed_ends : (rs : List Run) → closed rs ≡ cond (some_run rs) (eqb (head_node 0 rs) (last_node 0 rs)) false
closed_ends [] = refl
closed_ends (r ∷ rs) = refl

eqb_sym : (m n : ℕ) → eqb m n ≡ eqb n m
eqb_sym m n = go (eqb m n) refl (eqb n m) refl
  where
    go : (x : Bool) → eqb m n ≡ x → (y : Bool) → eqb n m ≡ y → eqb m n ≡ eqb n m
    go true e true f = e ∙ sym f
    go true e false f = absurd (false≢true (sym f ∙ eq-eqb n m (sym (eqb-true m n e))))
    go false e true f = absurd (false≢true (sym e ∙ eq-eqb m n (sym (eqb-true n m f))))
    go false e false f = e ∙ sym f

some_append : (xs : List Run) (r : Run) → some_run (xs ++ (r ∷ [])) ≡ true
some_append [] r = refl
some_append (x ∷ xs) r = refl

some_backward : (rs : List Run) → some_run (backward rs) ≡ some_run rs
some_backward [] = refl
some_backward (r ∷ rs) = ap some_run (backward_cons r rs) ∙ some_append (backward rs) (turn r)

closed_backward : (rs : List Run) → closed (backward rs) ≡ closed rs
closed_backward rs =
    closed_ends (backward rs)
    ∙ ap₂ (λ s t. cond s t false) (some_backward rs) (ap₂ eqb (head_backward 0 rs) (last_backward 0 rs) ∙ eqb_sym (last_node 0 rs) (head_node 0 rs))
    ∙ sym (closed_ends rs)

-- ---- chains, in two parts
abbrev after : Option ℕ → List Run → Option ℕ
after at [] = at
after at (r ∷ rs) = after (Some (ends r.sense r.leg)) rs

follows_split : (at : Option ℕ) (xs ys : List Run) → Follows at (xs ++ ys) → Follows at xs × Follows (after at xs) ys
follows_split at [] ys h = (tt, h)
follows_split None (x ∷ xs) ys h = follows_split (Some (ends x.sense x.leg)) xs ys h
follows_split (Some n) (x ∷ xs) ys h = let p = follows_split (Some (ends x.sense x.leg)) xs ys h.1 in ((h.0, p.0), p.1)

follows_join : (at : Option ℕ) (xs ys : List Run) → Follows at xs → Follows (after at xs) ys → Follows at (xs ++ ys)
follows_join at [] ys h k = k
follows_join None (x ∷ xs) ys h k = follows_join (Some (ends x.sense x.leg)) xs ys h k
follows_join (Some n) (x ∷ xs) ys h k = (h.0, follows_join (Some (ends x.sense x.leg)) xs ys h.1 k)

linked_only : (at : Option ℕ) (rs : List Run) → Follows at rs → Linked rs
linked_only at [] h = tt
linked_only None (r ∷ rs) h = h
linked_only (Some n) (r ∷ rs) h = h.1

-- a chain that is joined to a node
linked_from : (n : ℕ) (rs : List Run) → Linked rs → n ≡ head_node n rs → Follows (Some n) rs
linked_from n [] h e = tt
linked_from n (r ∷ rs) h e = (e, h)

after_some : (n : ℕ) (rs : List Run) → after (Some n) rs ≡ Some (last_node n rs)
after_some n [] = refl
after_some n (r ∷ rs) = after_some (ends r.sense r.leg) rs

follows_head : (n : ℕ) (rs : List Run) → Follows (Some n) rs → n ≡ head_node n rs
follows_head n [] h = refl
follows_head n (r ∷ rs) h = h.0

-- ---- turned round
pub linked_backward : (rs : List Run) → Linked rs → Linked (backward rs)
linked_backward [] h = tt
linked_backward (r ∷ rs) h =
    let e = ends r.sense r.leg in
    subst Linked (sym (backward_cons r rs)) (join (backward rs) (linked_backward rs (linked_only (Some e) rs h)) (last_backward e rs ∙ sym (follows_head e rs h) ∙ sym (turn_begins r)))
  where
    join : (zs : List Run) → Linked zs → last_node (ends r.sense r.leg) zs ≡ begins (turn r).sense (turn r).leg → Linked (zs ++ (turn r ∷ []))
    join [] k e = tt
    join (z ∷ zs) k e =
        follows_join None (z ∷ zs) (turn r ∷ []) k (subst (λ at. Follows at (turn r ∷ [])) (sym (after_some (ends z.sense z.leg) zs)) (e, tt))

-- ---- begun elsewhere
last_of : (n : ℕ) (xs : List Run) (y : Run) (ys : List Run) → last_node n (xs ++ (y ∷ ys)) ≡ last_node (ends y.sense y.leg) ys
last_of n [] y ys = refl
last_of n (x ∷ xs) y ys = last_of (ends x.sense x.leg) xs y ys

pub rotated : (xs ys : List Run) → Linked (xs ++ ys) → closed (xs ++ ys) ≡ true → Linked (ys ++ xs) × (closed (ys ++ xs) ≡ true)
rotated [] ys h e = (subst Linked (sym (append-nil ys)) h, ap closed (append-nil ys) ∙ e)
rotated (x ∷ xs) [] h e = (subst Linked (append-nil (x ∷ xs)) h, sym (ap closed (append-nil (x ∷ xs))) ∙ e)
rotated (x ∷ xs) (y ∷ ys) h e =
    let end_x = ends x.sense x.leg in
    let end_y = ends y.sense y.leg in
    let parts = follows_split None (x ∷ xs) (y ∷ ys) h in
    let second = subst (λ at. Follows at (y ∷ ys)) (after_some end_x xs) parts.1 in
    let around : begins x.sense x.leg ≡ last_node end_y ys = eqb-true _ _ e ∙ last_of end_x xs y ys in (
      follows_join None (y ∷ ys) (x ∷ xs) second.1 (subst (λ at. Follows at (x ∷ xs)) (sym (after_some end_y ys)) (sym around, parts.0)),
      eq-eqb _ _ (sym second.0 ∙ sym (last_of end_y ys x xs)),
    )

-- ---- what is found
lengths : Monoid ℕ
lengths = record { op = ◌+◌; unit = 0; assoc = add_assoc; comm = add_comm; left = zero-add }

runnings : Monoid Running
runnings = record { op = joined; unit = Double; assoc = assoc; comm = comm; left = λ x. refl }
  where
    assoc : (x y z : Running) → joined (joined x y) z ≡ joined x (joined y z)
    assoc Single y z = refl
    assoc Double y z = refl

    comm : (x y : Running) → joined x y ≡ joined y x
    comm Single Single = refl
    comm Single Double = refl
    comm Double Single = refl
    comm Double Double = refl

length_fold : (rs : List Run) → total_length rs ≡ fold lengths (λ r. r.leg.length.metres) rs
unfolding lengths
length_fold [] = refl
length_fold (r ∷ rs) = ap (λ n. r.leg.length.metres + n) (length_fold rs)

running_fold : (rs : List Run) → circuit_running rs ≡ fold runnings (λ r. running r.leg.back) rs
unfolding runnings
running_fold [] = refl
running_fold (r ∷ rs) = ap (joined (running r.leg.back)) (running_fold rs)

module _ {Element : Type 0} (q : Terms Element) where
  pub same_finding : (rs rs' : List Run) (due due' : ℕ) → closed rs ≡ closed rs' → length rs ≡ length rs' → total_length rs ≡ total_length rs' → circuit_running rs ≡ circuit_running rs' →
      closure_size q rs due ≡ closure_size q rs' due' → q.size (summed_misclosure q rs) ≡ q.size (summed_misclosure q rs') → runs_finding q rs due ≡ runs_finding q rs' due'
  same_finding rs rs' due due' c l m r z s =
      λ i. record { form = record { closed = c i; legs = l i }; length = record { metres = m i }; running = r i; closure = z i; misclosure = s i }

  -- begun elsewhere
  pub found_rotated : (xs ys : List Run) (due : ℕ) → closed (xs ++ ys) ≡ true → closed (ys ++ xs) ≡ true → runs_finding q (ys ++ xs) due ≡ runs_finding q (xs ++ ys) due
  found_rotated xs ys due shut shut' =
      let swapped : (f : Run → Element) → total q (map f (ys ++ xs)) ≡ total q (map f (xs ++ ys)) = λ f. total_fold q f (ys ++ xs) ∙ fold_swap (sums q) f ys xs ∙ sym (total_fold q f (xs ++ ys)) in
      same_finding (ys ++ xs) (xs ++ ys) due due (shut' ∙ sym shut) (length-append ys xs ∙ add_comm (length ys) (length xs) ∙ sym (length-append xs ys))
      (length_fold (ys ++ xs) ∙ fold_swap lengths _ ys xs ∙ sym (length_fold (xs ++ ys)))
      (running_fold (ys ++ xs) ∙ fold_swap runnings _ ys xs ∙ sym (running_fold (xs ++ ys)))
      (ap₂ (λ b x. cond b (q.size (q.plus x (q.opposite (q.due due)))) 0) (shut' ∙ sym shut) (swapped (contribution q)))
      (ap q.size (swapped (λ r. own_misclosure q r.leg)))

  -- turned round
  turned_contribution : (r : Run) → contribution q (turn r) ≡ q.opposite (contribution q r)
  turned_contribution r = go r.sense
    where
      go : (s : Sense) → as_run q.opposite (turned_sense s) (q.contribution r.leg.value r.leg.back) ≡ q.opposite (as_run q.opposite s (q.contribution r.leg.value r.leg.back))
      go Along = refl
      go Against = sym (opposite_twice q (q.contribution r.leg.value r.leg.back))

  total_backward : (f : Run → Element) (rs : List Run) → total q (map f (backward rs)) ≡ total q (map (λ r. f (turn r)) rs)
  total_backward f rs =
      total_fold q f (backward rs) ∙ fold_reverse (sums q) f (map turn rs) ∙ fold_map (sums q) f turn rs ∙ sym (total_fold q (λ r. f (turn r)) rs)

  closure_backward : (rs : List Run) (due due' : ℕ) → q.due due' ≡ q.opposite (q.due due) → q.size (closure q (backward rs) due') ≡ q.size (closure q rs due)
  closure_backward rs due due' e =
      ap q.size
      (ap₂ (λ x y. q.plus x (q.opposite y)) (total_backward (contribution q) rs ∙ total_opposite q (contribution q) (λ r. contribution q (turn r)) turned_contribution rs) e
      ∙ sym (opposite_plus q (total q (map (contribution q) rs)) (q.opposite (q.due due))))
      ∙ q.size_opposite (closure q rs due)

  pub found_backward : (rs : List Run) (due due' : ℕ) → q.due due' ≡ q.opposite (q.due due) → runs_finding q (backward rs) due' ≡ runs_finding q rs due
  found_backward rs due due' e =
      same_finding (backward rs) rs due' due (closed_backward rs) (length-reverse (map turn rs) ∙ length-map rs turn)
      (length_fold (backward rs) ∙ fold_reverse lengths _ (map turn rs) ∙ fold_map lengths _ turn rs ∙ sym (length_fold rs))
      (running_fold (backward rs) ∙ fold_reverse runnings _ (map turn rs) ∙ fold_map runnings _ turn rs ∙ sym (running_fold rs))
      (ap₂ (λ b x. cond b x 0) (closed_backward rs) (closure_backward rs due due' e))
      (ap q.size (total_backward (λ r. own_misclosure q r.leg) rs))
