use Rattle.std.proofs.Common.{subst, sym}
use Rattle.std.proofs.lemmas.Result.{IfOk-weaker}
use Rattle.iam_layers.specs.Own.{IsCleanAt}
use Rattle.iam_open_changes.specs.InBoth.{IsCleanIn}
use Rattle.iam_open_changes.specs.Sides.{OfSide}
use Rattle.iam_open_changes.specs.declared.side.Side.{Side}
use Rattle.iam_open_changes.proofs.SideLemmas.{of_has, of_lacks, of_request}
use Rattle.iam_open_changes.proofs.certain.is_clean_in.Goals as goal

pub returns-in-Has : goal.returns-in-Has
returns-in-Has c =
    let request = c.in-Has.request in
    let own = c.args.own.now.items in
    IfOk-weaker c.may_give.result _ _
    (λ may clean t.
    subst (λ (side : Side). OfSide side (λ other at. IsCleanIn other at own)) (sym c.in-Has.is)
    (of_has (λ other at. IsCleanIn other at own) request
    (of_request (λ other it. IsCleanAt other it.principal it.resource own) request (λ other a r seat does. clean t other r seat))))
    c.may_give.ensures

pub returns-in-Lacks : goal.returns-in-Lacks
returns-in-Lacks c = λ t.
    let own = c.args.own.now.items in
    subst (λ (side : Side). OfSide side (λ other at. IsCleanIn other at own)) (sym c.in-Lacks.is)
    (of_lacks (λ other at. IsCleanIn other at own) c.in-Lacks.field-0 tt)
