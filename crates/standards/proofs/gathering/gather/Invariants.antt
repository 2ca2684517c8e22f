-- What is met so far: all findings before this one, and the first rules on this one.
use Rattle.std.proofs.Common.{◌≡◌, ◌≤◌, ◌&&◌, length, drop}
use Rattle.standards.specs.declared.class.Class.{Class}
use Rattle.standards.specs.ClassSets.{holds}
use Rattle.standards.specs.Gathering.{all_meet, meets_first}
use Rattle.standards.proofs.gathering.gather.Given as goal

abbrev pub invariant-loop-rule : goal.invariant-loop-rule
invariant-loop-rule g l =
    let table = g.F.Finding.table (g.S.Standard.meaning l.standard) in
    (k : Class) → holds l.met k ≡ (meets_first table l.rule l.finding k && holds l.initial.met k)

-- what is met so far, and what is left, decide the answer
abbrev pub invariant-loop-finding : goal.invariant-loop-finding
invariant-loop-finding g l =
    let table = g.F.Finding.table (g.S.Standard.meaning l.standard) in
    (l.finding-index ≤ length l.findings)
    × ((k : Class) → (holds l.met k && all_meet table (drop l.finding-index l.findings) k) ≡ all_meet table l.findings k)
