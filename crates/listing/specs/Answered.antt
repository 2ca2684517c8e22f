-- The plain book's answer to misses.
use Rattle.std.specs.Prelude.{ℕ}
use Rattle.plainbook.specs.Steps.{Answer, listed}

abbrev pub is_listed : ℕ → Answer
is_listed n = listed n
