-- The size of a circuit's closure.
use Rattle.std.specs.Prelude.{ℕ, Bool, cond}
use Rattle.quantities.specs.Terms.{Terms}

-- the size of a sum of contributions less the due sum, 0 where the way is open
abbrev pub closure_where : {Element : Type 0} → Terms Element → (shut : Bool) → Element → (due : ℕ) → ℕ
closure_where q shut contributions due = cond shut (q.size (q.plus contributions (q.opposite (q.due due)))) 0
