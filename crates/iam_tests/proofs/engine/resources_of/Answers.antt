use Rattle.std.proofs.Common.{◌∙◌, length, ap}
use Rattle.iam_world.specs.World.{WorldValue}
use Rattle.iam_tests.proofs.engine.resources_of.Goals as goal

pub returns : goal.returns
returns c = c.resources.ensures ∙ ap (λ (w : WorldValue). length w.resources) (c.world.ensures ∙ c.index.ensures)
