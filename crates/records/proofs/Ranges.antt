-- Numbers that pass a test. Assumes nothing.
use Rattle.std.proofs.Common.{◌≡◌, ℕ, ◌≤◌, Bool, true, false, cond, leb, Some, None}
use Rattle.std.proofs.lemmas.Bool.{and_parts, leb-true}
use Rattle.records.specs.Ranges.{passing, between}

pub passed : (p : ℕ → Bool) (n m : ℕ) → Some m ≡ passing p n → m ≡ n
passed p n m e = go (p n) e
  where
    go : (b : Bool) → Some m ≡ cond b (Some n) None → m ≡ n
    go true e = cc
    go false e = cc

pub upto : (low high n : ℕ) → between low high n ≡ true → n ≤ high
upto low high n e = leb-true n high (and_parts _ _ e).1

pub from : (low high n : ℕ) → between low high n ≡ true → low ≤ n
from low high n e = leb-true low n (and_parts (leb low n) _ e).0
