use Rattle.std.proofs.Common.{◌∙◌, ap}
use Rattle.iam_context.specs.Resolve.{resolved}
use Rattle.iam_match.proofs.StatementLemmas.{plain_resolved}
use Rattle.iam_match.proofs.resource.answer.Goals as goal

pub returns-in-Fixed : goal.returns-in-Fixed
returns-in-Fixed c = (
  c.in-Fixed.glob.now,
  ap (resolved c.args.context.now) c.in-Fixed.ensures ∙ plain_resolved c.args.context.now c.in-Fixed.glob.now,
  c.matches.ensures,
)
