use Rattle.iam_world.proofs.Unique.{not_both}
use Rattle.iam_world.proofs.laws.no_world_and_fault.Goals as goal

pub returns : goal.returns
returns c = not_both
