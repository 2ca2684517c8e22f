use Rattle.std.proofs.Common.{◌∙◌}
use Rattle.records.proofs.Circuits.{read_some}
use Rattle.records.proofs.circuit.named.is_ranged.Goals as goal

pub returns : goal.returns
returns c = c.is_some.ensures ∙ read_some _ _ _ c.read.ensures
