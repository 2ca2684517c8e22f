use Rattle.std.proofs.Common.{◌≡◌, ◌≤◌, None}
use Rattle.plainbook.specs.Findings.{form}
use Rattle.plainbook.specs.Surveys.{runs}
use Rattle.survey.specs.Books.{surveyed}
use Rattle.survey.specs.Paths.{come_to}
use Rattle.survey.proofs.Paths.{form_after}
use Rattle.survey.proofs.Walking.{chain_left, later}
use Rattle.survey.proofs.book.Book.chain.Given as goal

-- what is left decides the refusal and the form
abbrev pub invariant-loop-i : goal.invariant-loop-i
invariant-loop-i g l =
    let legs = (surveyed l.self).legs in
    let ws = l.uses.words.now in
    record {
      refusal : chain_left legs ws l.i (come_to l.path) ≡ chain_left legs ws 0 None;
      form : form_after l.path (runs legs (later ws l.i)) ≡ form (runs legs (later ws 0));
      few : l.path.legs ≤ l.i;
    }
