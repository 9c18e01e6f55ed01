use Rattle.std.proofs.Common.{sym, subst}
use Rattle.iam_world.specs.World.{WorldValue}
use Rattle.iam_living.specs.Survey.{AreOf}
use Rattle.iam_living.proofs.survey.Survey.of.Goals as goal

pub invariant_of-result : goal.invariant_of-result
invariant_of-result c =
    let W : WorldValue → Type 0 = λ w. AreOf w c.args.blocks.items in (subst W (sym c.world.ensures) c.requires, sym c.world.ensures)
