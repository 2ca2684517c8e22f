-- The bits in both are those of the classes in both.
use Rattle.standards.proofs.FiveBits.{and_bit}
use Rattle.standards.proofs.class_set.ClassSet.both.Goals as goal

pub returns : goal.returns
returns c = and_bit c.args.self.bits c.args.other.bits
