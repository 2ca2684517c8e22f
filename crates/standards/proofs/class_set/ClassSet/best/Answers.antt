-- The lowest set digit is the best class.
use Rattle.std.proofs.Common.{◌≡◌, sym, ◌∙◌, subst}
use Rattle.standards.specs.Classes.{least, Least}
use Rattle.standards.specs.ClassSets.{holds}
use Rattle.standards.proofs.Bests.{least_is}
use Rattle.standards.proofs.FiveBits.{zeros_least}
use Rattle.standards.proofs.class_set.ClassSet.best.Goals as goal

pub returns : goal.returns
returns c =
    let set = c.args.self in
    let value : c.ok.result ≡ least (holds set) = c.ok.ensures.value ∙ c.try_from.ensures.0 ∙ zeros_least set.bits set.five in
    record { value = value; least = subst (Least (holds set)) (sym value) (least_is (holds set)) }
