use Rattle.std.proofs.Common.{sym, subst, ◌∙◌}
use Rattle.iam_index.proofs.ListLemmas.{some_same}
use Rattle.iam_living.specs.Asker.{IsAsker}
use Rattle.iam_classes.proofs.words.Words.told.Goals as goal

pub told-requires-clause-asker : goal.told-requires-clause-asker
told-requires-clause-asker c =
    let (it, is, asked) = c.requires.asker in
    subst (IsAsker c.args.source.now.world c.args.p) (some_same it c.in-Some.asker (sym is ∙ c.in-Some.is)) asked
