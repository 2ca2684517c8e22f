use Rattle.std.proofs.Common.{refl}
use Rattle.plainbook.proofs.Agreement.{promise}
use Rattle.plainbook.proofs.promise_holds.Goals as goal

pub returns : goal.returns
returns g c = record { zero = refl; holds = promise g.Q.Quantity.meaning g.S.Standard.meaning }
