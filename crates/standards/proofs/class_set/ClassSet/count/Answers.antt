-- The set digits are the members.
use Rattle.standards.proofs.FiveBits.{ones_count}
use Rattle.standards.proofs.class_set.ClassSet.count.Goals as goal

pub returns : goal.returns
returns c = ones_count c.args.self.bits c.args.self.five
