use Rattle.std.proofs.Common.{◌&&◌, ◌∙◌, ap₂}
use Rattle.grading.proofs.judge.met.Goals as goal

pub returns : goal.returns
returns g c =
    λ k.
    c.both-2.ensures k
    ∙ ap₂ ◌&&◌ (c.gather.ensures.gathered.members k) (c.both.ensures k ∙ ap₂ ◌&&◌ (c.gather-of_circuits.ensures.gathered.members k) (c.gather-of_whole.ensures.gathered.members k))
