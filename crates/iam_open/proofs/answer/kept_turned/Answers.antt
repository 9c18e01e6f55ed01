use Rattle.std.proofs.Common.{[], ◌∷◌, arith, refl}
use Rattle.iam_open.proofs.answer.kept_turned.Goals as goal

pub returns-in-Always-clause-turned : goal.returns-in-Always-clause-turned
returns-in-Always-clause-turned c = c.in_ok-certainly.ensures.always (c.args.world.now ∷ []) (0, omega arith, refl) c.in-Always.is

pub returns-in-Never-clause-turned : goal.returns-in-Never-clause-turned
returns-in-Never-clause-turned c = c.in_ok-certainly.ensures.never (c.args.world.now ∷ []) (0, omega arith, refl) c.in-Never.is
