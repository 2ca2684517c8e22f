use Rattle.std.proofs.Common.{◌≡◌, drop}
use Rattle.records.specs.Layouts.{misplaced}
use Rattle.records.proofs.layout.misplaced.Given as goal

-- what is left decides
abbrev pub invariant-loop-i : goal.invariant-loop-i
invariant-loop-i l = misplaced l.i (drop l.i l.slots) (drop l.i l.words) ≡ misplaced 0 l.slots l.words
