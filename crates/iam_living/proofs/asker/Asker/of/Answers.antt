use Rattle.std.proofs.Common.{◌≡◌, subst}
use Rattle.iam_layers.specs.Cell.{IsPrincipal}
use Rattle.iam_world.specs.World.{WorldValue}
use Rattle.iam_living.proofs.asker.Asker.of.Goals as goal

pub returns-clause-asker : goal.returns-clause-asker
returns-clause-asker c =
    let W : WorldValue → Type 0 = λ w. IsPrincipal w c.args.p (λ principal. c.requester.result.now ≡ principal.requester) in
    record {
      of = c.of.ensures.world;
      asks = subst W c.world.ensures c.requester.ensures;
      lists = c.of.ensures.lists;
      resources = c.resource_lists.ensures.are;
      count = c.resource_lists.ensures.count;
    }
