use Rattle.std.proofs.Common.{None, Some, refl, subst, sym}
use Rattle.iam_open_changes.specs.InBoth.{IsVerdictIn}
use Rattle.iam_open_changes.specs.Sides.{OfSide}
use Rattle.iam_open_changes.specs.declared.side.Side.{Side}
use Rattle.iam_open_changes.proofs.SideLemmas.{of_has, of_lacks, of_request}
use Rattle.iam_open_changes.proofs.example.said_in.Goals as goal

pub returns-in_ok-verdict-in-Has : goal.returns-in_ok-verdict-in-Has
returns-in_ok-verdict-in-Has c =
    let request = c.in-Has.request in
    let own = c.args.own.now.items in
    let moment = c.args.moment in
    let verdict = c.in_ok-verdict-in-Has.verdict in
    subst (λ (side : Side). OfSide side (λ other at. IsVerdictIn other at own moment (Some verdict))) (sym c.in-Has.is)
    (of_has (λ other at. IsVerdictIn other at own moment (Some verdict)) request
    (of_request (λ other it. IsVerdictIn other (Some it) own moment (Some verdict)) request
    (λ other a r seat does. (verdict, refl, c.in_ok-verdict-in-Has.ensures other a r seat does))))

pub returns-in-Lacks : goal.returns-in-Lacks
returns-in-Lacks c =
    let own = c.args.own.now.items in
    let moment = c.args.moment in
    subst (λ (side : Side). OfSide side (λ other at. IsVerdictIn other at own moment None)) (sym c.in-Lacks.is)
    (of_lacks (λ other at. IsVerdictIn other at own moment None) c.in-Lacks.field-0 refl)
