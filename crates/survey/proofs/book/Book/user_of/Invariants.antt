use Rattle.std.proofs.Common.{◌≡◌, drop}
use Rattle.survey.proofs.Picks.{pick}
use Rattle.survey.proofs.Using.{among, uses_leg}
use Rattle.survey.proofs.book.Book.user_of.Given as goal

-- what is left decides
abbrev pub invariant-loop-used : goal.invariant-loop-used
invariant-loop-used g l = among l.leg (drop l.used-index l.used-items) ≡ among l.leg l.used-items

abbrev pub invariant-loop-number : goal.invariant-loop-number
invariant-loop-number g l =
    pick (uses_leg l.leg) l.number-iterator ≡ pick (uses_leg l.leg) (l.self.circuits.entries)
