-- Gathering: the classes that every rule meets on every finding, and what the law says of whole lists of findings.
use Rattle.std.specs.Prelude.{◌≡◌, ℕ, zero, suc, ◌<◌, Bool, true, false, ◌&&◌, List, [], ◌∷◌, length, Decides}
use Rattle.std.specs.List.{AllZip, HoldsAt, AllByRecursion}
use Rattle.standards.specs.declared.class.Class.{Class}
use Rattle.standards.specs.declared.finding.Directions.{Directions}
use Rattle.standards.specs.NoWorse.{Kind, NoWorse, Preorder}
use Rattle.standards.specs.Rules.{Table}

module _ {Finding : Type 0} {kind : Kind Finding} {better : Directions} (table : Table kind better) where
  -- a finding meets a class under each of the first rules
  abbrev pub meets_first : ℕ → Finding → Class → Bool
  meets_first zero f k = true
  meets_first (suc n) f k = table.meets n f k && meets_first n f k

  abbrev pub all_meet : List Finding → Class → Bool
  all_meet [] k = true
  all_meet (f ∷ fs) k = meets_first table.count f k && all_meet fs k

  -- every rule meets the class on every finding
  abbrev pub AllMeet : List Finding → Class → Type 0
  AllMeet fs k = AllByRecursion (λ f. (rule : ℕ) → rule < table.count → table.meets rule f k ≡ true) fs

  -- the classes held are those that every rule meets on every finding
  pub record Gathered (fs : List Finding) (held : Class → Bool) : Type 0 where
    pub members : (k : Class) → held k ≡ all_meet fs k
    pub every : (k : Class) → Decides (held k) (AllMeet fs k)

  -- What the law says where findings pair off, each of `fs` no worse than its partner in `gs`: what one of `fs` misses
  -- its partner misses, under each rule and at each class; and every class that `gs` meets, `fs` meets.
  pub record KeepsOrder : Type 0 where
    pub misses : (fs gs : List Finding) → AllZip (NoWorse kind better) fs gs
        → (i : ℕ) → i < length fs → (rule : ℕ) (k : Class)
        → HoldsAt (λ f. table.meets rule f k ≡ false) fs i → HoldsAt (λ g. table.meets rule g k ≡ false) gs i
    pub meets : (fs gs : List Finding) → AllZip (NoWorse kind better) fs gs → (k : Class) → AllMeet gs k → AllMeet fs k
    pub order : Preorder kind better
