use Rattle.std.proofs.Common.{refl}
use Rattle.plainbook.proofs.Figures.{figures}
use Rattle.plainbook.proofs.figures_hold.Goals as goal

pub returns : goal.returns
returns c = record { zero = refl; holds = figures }
