use Rattle.std.proofs.Common.{◌-◌, ◌*◌, ◌^◌, ◌≤◌, drop}
use Rattle.survey.specs.Standing.{standing_legs}
use Rattle.grading.proofs.Running.{SoFar, runs_of}
use Rattle.grading.proofs.findings.finding_of.Given as goal

-- what is so far and what is left decide, and what is so far is small
abbrev pub invariant-loop-used : goal.invariant-loop-used
invariant-loop-used g l =
    SoFar (g.Q.Quantity.meaning l.book.quantity) l.path l.metres l.running l.contributions l.misclosures
    (runs_of (standing_legs l.book.legs) (drop l.used-index l.used-items)) (runs_of (standing_legs l.book.legs) l.used-items)
    × (l.metres ≤ l.used-index * (2 ^ 28 - 1))
    × (l.path.legs ≤ l.used-index)
