use Rattle.std.proofs.Common.{subst}
use Rattle.iam_world.specs.World.{WorldValue}
use Rattle.iam_index.specs.Elements.{AreElements}
use Rattle.iam_index.proofs.index.Index.elements.Goals as goal

pub returns : goal.returns
returns c =
    let W : WorldValue → Type 0 = λ w. AreElements w c.self.inside.elements.elements.items in subst W c.self.view_is c.self.invariant.elements_are
