use Rattle.std.proofs.Common.{sym, ◌∙◌}
use Rattle.iam_classes.proofs.words.Words.turn_to.Goals as goal

pub returns-then-principal-p-clause-asker : goal.returns-then-principal-p-clause-asker
returns-then-principal-p-clause-asker c = (c.in-Some.asker, c.in-Some.is, sym c.principal.ensures ∙ c.if-principal-p.true)
