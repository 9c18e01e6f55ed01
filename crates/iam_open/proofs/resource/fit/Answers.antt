use Rattle.std.proofs.Common.{◌∙◌, ap}
use Rattle.iam_context.specs.Resolve.{resolved}
use Rattle.iam_match.proofs.StatementLemmas.{plain_resolved}
use Rattle.iam_open.proofs.FitLemmas.{fits}
use Rattle.iam_open.proofs.resource.fit.Goals as goal

pub returns-in-Fixed : goal.returns-in-Fixed
returns-in-Fixed c =
    fits c.args.context.now c.args.text.now c.args.resource.now c.in-Fixed.glob.now c.matches.result
    (ap (resolved c.args.context.now) c.in-Fixed.ensures ∙ plain_resolved c.args.context.now c.in-Fixed.glob.now) c.matches.ensures
