-- A rule more, a finding more, and what is gathered at the end.
use Rattle.std.proofs.Common.{◌≡◌, arith}
use Rattle.std.proofs.lemmas.Bool.Decides.{Decides-at}
use Rattle.standards.specs.declared.class.Class.{Class}
use Rattle.standards.specs.ClassSets.{holds}
use Rattle.standards.specs.Gathering.{all_meet}
use Rattle.standards.proofs.Gathered.{rule_next, finding_next, finding_last, decides_all_meet, keeps_order}
use Rattle.standards.proofs.gathering.gather.Goals as goal

pub loop-rule-preserved : goal.loop-rule-preserved
loop-rule-preserved g c =
    λ k.
    rule_next (g.F.Finding.table (g.S.Standard.meaning c.args.standard.now)) c.loop-rule.rule c.finding-item.result k
    (holds c.loop-finding.met k) (c.both-met.ensures k) (c.loop-rule.invariant k) (c.classes.ensures k)

pub loop-finding-preserved : goal.loop-finding-preserved
loop-finding-preserved g c = (
  omega arith,
  λ k.
      finding_next (g.F.Finding.table (g.S.Standard.meaning c.args.standard.now)) c.args.findings.now
      c.loop-finding.finding-index c.finding-item.result k c.loop-rule.rule (holds c.loop-finding.met k) c.loop-finding-test.true
      c.finding-item.is (omega arith) (c.loop-rule.invariant k) (c.loop-finding.invariant.1 k),
)

pub returns : goal.returns
returns g c =
    let table = g.F.Finding.table (g.S.Standard.meaning c.args.standard.now) in
    let fs = c.args.findings.now in
    let members : (k : Class) → holds c.loop-finding.met k ≡ all_meet table fs k =
    λ k. finding_last table fs c.loop-finding.finding-index k c.loop-finding-test.false (c.loop-finding.invariant.1 k) in
    record {
      gathered = record { members = members; every = λ k. Decides-at _ _ (members k) (decides_all_meet table fs k) };
      law = keeps_order table;
    }
