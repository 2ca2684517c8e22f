-- A map at numbers from 1 to a limit, as a function from numbers.
use Rattle.std.specs.Prelude.{ℕ, Bool, T, Option}
use Rattle.std.specs.BTreeMap.{BTreeMap}
use Rattle.std.specs.BTreeMap.{keys, get, IsOrdered}
use Rattle.std.specs.List.{list_all}
use Rattle.records.specs.Ranges.{between}
use Rattle.std.specs.Ordering.{nat_cmp}

module _ {X : Type 0} where
  -- the keys are in order, and each is from 1 to high
  abbrev pub Numbered : (high : ℕ) → BTreeMap ℕ X → Type 0
  Numbered high m = IsOrdered nat_cmp m × T (list_all (between 1 high) (keys m))

  -- what stands at each number
  abbrev pub table : BTreeMap ℕ X → ℕ → Option X
  table m = λ n. get nat_cmp m n

  -- each number and what stands there pass a test
  abbrev pub every : (ℕ → X → Bool) → BTreeMap ℕ X → Bool
  every test m = list_all (λ p. test p.0 p.1) (m.entries)
