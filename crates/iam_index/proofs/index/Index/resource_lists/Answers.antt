use Rattle.iam_world.specs.World.{WorldValue}
use Rattle.std.proofs.Common.{subst}
use Rattle.iam_index.specs.Index.{AreResourceLists}
use Rattle.iam_index.proofs.index.Index.resource_lists.Goals as goal

pub returns-clause-are : goal.returns-clause-are
returns-clause-are c =
    let lists = c.self.inside.resources in
    let W : WorldValue → Type 0 = λ w. AreResourceLists w lists.lists.items lists.numbers.items in
    subst W c.self.view_is c.self.invariant.resources_are
