use Rattle.std.proofs.Common.{sym, subst}
use Rattle.iam_world.specs.World.{WorldValue}
use Rattle.iam_engine.specs.Cache.{HasArn}
use Rattle.iam_engine.proofs.cache.MatchCache.matches.Goals as goal

pub invariant_of-self : goal.invariant_of-self
invariant_of-self c =
    let world = c.self.inside.world.now in
    let H : WorldValue → Type 0 = λ w. HasArn w c.args.r c.args.arn.now in
    c.matches.ensures.right world (subst H (sym c.self.view_is) c.requires) c.self.invariant
