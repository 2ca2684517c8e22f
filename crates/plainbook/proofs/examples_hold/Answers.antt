use Rattle.std.proofs.Common.{refl}
use Rattle.plainbook.proofs.Examples.{examples}
use Rattle.plainbook.proofs.examples_hold.Goals as goal

pub returns : goal.returns
returns c = record { zero = refl; holds = examples }
