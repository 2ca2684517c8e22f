-- Maps at numbers, as functions. Assumes nothing.
use Rattle.std.proofs.Common.{◌≡◌, ℕ, ◌≤◌, Bool, true, false, cond, ◌&&◌, T, eqb, leb, List, [], ◌∷◌, is_some, Some, None, Ok, Err, Option, Result, OnOk, OnErr, sym, refl, ap, ◌∙◌, subst}
use mathlib.Core.Path.{fun_ext}
use Rattle.std.specs.declared.alloc.AllocFailed.{AllocFailed}
use Rattle.std.specs.BTreeMap.{BTreeMap}
use Rattle.std.specs.BTreeMap.{keys, is_at, IsOrdered, Updates, IsUnchanged}
use Rattle.std.specs.Map.{lookup, update, keys_of}
use Rattle.std.specs.List.{list_all}
use Rattle.std.specs.List.Sorted.{IsStrictlySortedBy}
use Rattle.std.specs.Cmp.{nat_cmp_total, unsigned_tied}
use Rattle.std.specs.Ordering.{nat_cmp}
use Rattle.std.specs.Option.{option_map}
use Rattle.records.specs.Ranges.{between}
use Rattle.plainbook.proofs.Standing.{some_same}
use Rattle.survey.specs.Numbered.{Numbered, table, every}
use Rattle.std.proofs.lemmas.Cmp.{eq_by_cmp_equiv}
use Rattle.std.proofs.lemmas.Map.{lookup-none}
use Rattle.std.proofs.lemmas.Map.Entries.{lookup_head, lookup_tail, none_past_head}
use Rattle.std.proofs.lemmas.Map.Keys.{sorted_tail, IsDistinct-from_sorted}
use Rattle.std.proofs.lemmas.Bool.{eqb-true, eq-eqb, false≢true, true≢false, le-leb, leb-true}

-- ---- tests that pass
pub passes : (b : Bool) → b ≡ true → T b
passes true e = tt
passes false e = absurd (false≢true e)

pub passed : (b : Bool) → T b → b ≡ true
passed true h = refl
passed false h = absurd h

both : (a b : Bool) → T a → T b → T (a && b)
both true true h k = tt
both true false h k = k
both false b h k = h

pub left : (a b : Bool) → T (a && b) → T a
left true b h = tt
left false b h = h

pub right : (a b : Bool) → T (a && b) → T b
right true b h = h
right false b h = absurd h

pub ranged : (high n : ℕ) → 1 ≤ n → n ≤ high → T (between 1 high n)
ranged high n l h = both (leb 1 n) (leb n high) (passes _ (le-leb 1 n l)) (passes _ (le-leb n high h))

pub unranged : (high n : ℕ) → T (between 1 high n) → (1 ≤ n) × (n ≤ high)
unranged high n h = (leb-true 1 n (passed _ (left (leb 1 n) (leb n high) h)), leb-true n high (passed _ (right (leb 1 n) (leb n high) h)))

pub none_from_isSome : {X : Type 0} (o : Option X) → is_some o ≡ false → o ≡ None
none_from_isSome None h = refl
none_from_isSome (Some x) h = absurd (true≢false h)

pub mapped_isSome : {X Y : Type 0} (f : X → Y) (o : Option X) → is_some (option_map f o) ≡ is_some o
mapped_isSome f None = refl
mapped_isSome f (Some x) = refl

-- a change, read by f
pub mapped_update : {X Y : Type 0} (f : X → Y) (g : ℕ → Option X) (n : ℕ) (w : Option X) (q : ℕ) → option_map f (update eqb g n w q) ≡ update eqb (λ k. option_map f (g k)) n (option_map f w) q
mapped_update f g n w q = go (eqb n q)
  where
    go : (b : Bool) → option_map f (cond b w (g q)) ≡ cond b (option_map f w) (option_map f (g q))
    go true = refl
    go false = refl

-- what a map finds at a number, in a list of its entries
abbrev pub seek : {X : Type 0} → List (ℕ × X) → ℕ → Option X
seek es n = lookup (is_at (nat_cmp n)) es

module _ {X : Type 0} where
  pub seek_head : (n : ℕ) (e : ℕ × X) (es : List (ℕ × X)) → n ≡ e.0 → seek (e ∷ es) n ≡ Some e.1
  seek_head n e es same = lookup_head (is_at (nat_cmp n)) e es (unsigned_tied n e.0 ∙ eq-eqb n e.0 same)

  pub seek_tail : (n : ℕ) (e : ℕ × X) (es : List (ℕ × X)) → eqb n e.0 ≡ false → seek (e ∷ es) n ≡ seek es n
  seek_tail n e es apart = lookup_tail (is_at (nat_cmp n)) e es (unsigned_tied n e.0 ∙ apart)

  -- what is found among the others is found with the first before them
  seek_past : (e : ℕ × X) (es : List (ℕ × X)) → IsStrictlySortedBy nat_cmp (keys_of (e ∷ es)) → (n : ℕ) (x : X) → seek es n ≡ Some x → seek (e ∷ es) n ≡ Some x
  seek_past e es o n x is = go (eqb n e.0) refl
    where
      go : (b : Bool) → eqb n e.0 ≡ b → seek (e ∷ es) n ≡ Some x
      go true same =
          let none = lookup-none (is_at (nat_cmp n)) es (none_past_head (eq_by_cmp_equiv nat_cmp_total) n e es (IsDistinct-from_sorted nat_cmp (keys_of (e ∷ es)) o) (unsigned_tied n e.0 ∙ same)) in
          absurd (false≢true (ap is_some (sym none ∙ is)))
      go false apart = seek_tail n e es apart ∙ is

  module _ (test : ℕ → X → Bool) where
    found_first : (e : ℕ × X) (es : List (ℕ × X)) (n : ℕ) (x : X) → T (test e.0 e.1) → (seek es n ≡ Some x → T (test n x)) → seek (e ∷ es) n ≡ Some x → T (test n x)
    found_first e es n x here rest is = go (eqb n e.0) refl
      where
        go : (b : Bool) → eqb n e.0 ≡ b → T (test n x)
        go true same =
            let at : n ≡ e.0 = eqb-true n e.0 same in
            subst (λ v. T (test n v)) (some_same (sym (seek_head n e es at) ∙ is)) (subst (λ k. T (test k e.1)) (sym at) here)
        go false apart = rest (sym (seek_tail n e es apart) ∙ is)

    -- what every entry passes, what is found passes
    found_passes : (es : List (ℕ × X)) → T (list_all (λ p. test p.0 p.1) es) → (n : ℕ) (x : X) → seek es n ≡ Some x → T (test n x)
    found_passes [] h n x is = absurd (false≢true (ap is_some is))
    found_passes (e ∷ es) h n x is =
        found_first e es n x (left (test e.0 e.1) _ h) (found_passes es (right (test e.0 e.1) _ h) n x) is

    -- what all that is found passes, every entry passes
    entries_pass : (es : List (ℕ × X)) → IsStrictlySortedBy nat_cmp (keys_of es) → ((n : ℕ) (x : X) → seek es n ≡ Some x → T (test n x)) → T (list_all (λ p. test p.0 p.1) es)
    entries_pass [] o h = tt
    entries_pass (e ∷ es) o h =
        both (test e.0 e.1) _ (h e.0 e.1 (seek_head e.0 e es refl)) (entries_pass es (sorted_tail nat_cmp e.0 (keys_of es) o) (λ n x is. h n x (seek_past e es o n x is)))

  -- a test of the keys alone
  keys_tested : (p : ℕ → Bool) (es : List (ℕ × X)) → list_all p (keys_of es) ≡ list_all (λ e. p e.0) es
  keys_tested p [] = refl
  keys_tested p (e ∷ es) = ap (λ b. p e.0 && b) (keys_tested p es)

module _ {X : Type 0} where
  pub ordered : (high : ℕ) (m : BTreeMap ℕ X) → Numbered high m → IsOrdered nat_cmp m
  ordered high m o = o.0

  -- ---- what stands passes a test
  pub every_at : (test : ℕ → X → Bool) (m : BTreeMap ℕ X) → T (every test m) → (n : ℕ) (x : X) → table m n ≡ Some x → T (test n x)
  every_at test m h n x is = found_passes test m.entries h n x is

  pub every_from : (test : ℕ → X → Bool) (m : BTreeMap ℕ X) → IsOrdered nat_cmp m → ((n : ℕ) (x : X) → table m n ≡ Some x → T (test n x)) → T (every test m)
  every_from test m o h = entries_pass test m.entries o h

  at_passes : (p : ℕ → Bool) (m : BTreeMap ℕ X) → T (list_all p (keys m)) → (q : ℕ) → is_some (table m q) ≡ true → T (p q)
  at_passes p m h q e = go (table m q) refl e
    where
      go : (o : Option X) → table m q ≡ o → is_some o ≡ true → T (p q)
      go None is some = absurd (false≢true some)
      go (Some v) is some = found_passes (λ n _. p n) m.entries (subst T (keys_tested p m.entries) h) q v is

  pub in_range : (high : ℕ) (m : BTreeMap ℕ X) → Numbered high m → (q : ℕ) → is_some (table m q) ≡ true → between 1 high q ≡ true
  in_range high m o q e = passed _ (at_passes (between 1 high) m o.1 q e)

  passes_from_at : (p : ℕ → Bool) (m : BTreeMap ℕ X) → IsOrdered nat_cmp m → ((q : ℕ) → is_some (table m q) ≡ true → T (p q)) → T (list_all p (keys m))
  passes_from_at p m o h = subst T (sym (keys_tested p m.entries)) (entries_pass (λ n _. p n) m.entries o (λ n x is. h n (ap is_some is)))

  -- ---- after a change at one key
  pub table_sets : (m n : BTreeMap ℕ X) (k : ℕ) (w : Option X) → Updates nat_cmp m n k w → table n ≡ update eqb (table m) k w
  table_sets m n k w s = fun_ext (λ q. s.0 q ∙ ap (λ b. cond b w (table m q)) (unsigned_tied k q))

  pub numbered_sets : (high : ℕ) (m n : BTreeMap ℕ X) (k : ℕ) (w : Option X) → Updates nat_cmp m n k w → IsOrdered nat_cmp n → Numbered high m → (is_some w ≡ true → T (between 1 high k)) → Numbered high n
  numbered_sets high m n k w s is o here =
      (is, passes_from_at (between 1 high) n is (λ q some. go q (eqb k q) refl (sym (ap (λ (f : ℕ → Option X). is_some (f q)) (table_sets m n k w s)) ∙ some)))
    where
      go : (q : ℕ) (b : Bool) → eqb k q ≡ b → is_some (cond (eqb k q) w (table m q)) ≡ true → T (between 1 high q)
      go q true e some = subst (λ k. T (between 1 high k)) (eqb-true k q e) (here (rw e at some))
      go q false e some = at_passes (between 1 high) m o.1 q (rw e at some)

  pub every_sets : (test : ℕ → X → Bool) (m n : BTreeMap ℕ X) (k : ℕ) (w : Option X) → Updates nat_cmp m n k w → IsOrdered nat_cmp n → T (every test m) → ((x : X) → w ≡ Some x → T (test k x)) → T (every test n)
  every_sets test m n k w s o h here =
      every_from test n o (λ q x is. go q x (eqb k q) refl (sym (ap (λ (f : ℕ → Option X). f q) (table_sets m n k w s)) ∙ is))
    where
      go : (q : ℕ) (x : X) (b : Bool) → eqb k q ≡ b → cond (eqb k q) w (table m q) ≡ Some x → T (test q x)
      go q x true e is = subst (λ k. T (test k x)) (eqb-true k q e) (here x (rw e at is))
      go q x false e is = every_at test m h q x (rw e at is)

  -- after a key is taken out
  pub numbered_removed : (high : ℕ) (m n : BTreeMap ℕ X) (k : ℕ) → Updates nat_cmp m n k None → IsOrdered nat_cmp n → Numbered high m → Numbered high n
  numbered_removed high m n k s is o = numbered_sets high m n k None s is o (λ e. absurd (false≢true e))

  pub every_removed : (test : ℕ → X → Bool) (m n : BTreeMap ℕ X) (k : ℕ) → Updates nat_cmp m n k None → IsOrdered nat_cmp n → T (every test m) → T (every test n)
  every_removed test m n k s o h = every_sets test m n k None s o h (λ x e. absurd (false≢true (ap is_some e)))

  pub table_unchanged : (m n : BTreeMap ℕ X) → IsUnchanged m n → table n ≡ table m
  table_unchanged m n u = ap (λ es q. seek es q) u

  pub every_unchanged : (test : ℕ → X → Bool) (m n : BTreeMap ℕ X) → IsUnchanged m n → T (every test m) → T (every test n)
  every_unchanged test m n u h = subst (λ es. T (list_all (λ p. test p.0 p.1) es)) (sym u) h

  -- ---- after an `insert`, whether or not there was memory
  module _ (m n : BTreeMap ℕ X) (k : ℕ) (v : X) (is : IsOrdered nat_cmp n) where
    pub numbered_inserted : (high : ℕ) (r : Result (Option X) (AllocFailed (ℕ × X))) → OnOk r (Updates nat_cmp m n k (Some v)) → OnErr r (IsUnchanged m n) → Numbered high m → T (between 1 high k) → Numbered high n
    numbered_inserted high (Ok old) s u o here = numbered_sets high m n k (Some v) s is o (λ _. here)
    numbered_inserted high (Err y) s u o here = subst (λ es. IsStrictlySortedBy nat_cmp (keys_of es) × T (list_all (between 1 high) (keys_of es))) (sym u) o

    pub every_inserted : (test : ℕ → X → Bool) (r : Result (Option X) (AllocFailed (ℕ × X))) → OnOk r (Updates nat_cmp m n k (Some v)) → OnErr r (IsUnchanged m n) → T (every test m) → T (test k v) → T (every test n)
    every_inserted test (Ok old) s u all here = every_sets test m n k (Some v) s is all (λ x e. subst (λ y. T (test k y)) (some_same e) here)
    every_inserted test (Err y) s u all here = every_unchanged test m n u all
