use Rattle.std.proofs.Common.{sym, subst}
use Rattle.iam_living.specs.Asker.{IsAsker}
use Rattle.iam_living.proofs.asking.Asking.lives.Goals as goal

pub lives_among-requires-clause-asker : goal.lives_among-requires-clause-asker
lives_among-requires-clause-asker c = subst (IsAsker c.args.index.now c.args.p) (sym c.self.view_is) c.requires.asker
