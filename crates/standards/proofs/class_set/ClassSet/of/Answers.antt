-- Each bit is the test of its class.
use Rattle.standards.proofs.FiveBits.{packed_bit, sets_by_members}
use Rattle.standards.proofs.class_set.ClassSet.of.Goals as goal

pub returns : goal.returns
returns c =
    record {
      members =
          packed_bit c.args.passed c.from.ensures c.from-2.ensures c.from-3.ensures c.from-4.ensures
          c.from-5.ensures;
      only = sets_by_members;
    }
