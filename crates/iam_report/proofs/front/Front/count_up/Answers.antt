use Rattle.std.proofs.Common.{◌∙◌, ◌+◌, ap, arith, decimal, refl}
use Rattle.iam_report.specs.Code.Front.{FrontValue}
use Rattle.iam_report.proofs.Fronts.{counted}
use Rattle.iam_report.proofs.front.Front.count_up.Goals as goal

pub returns-clause-counted : goal.returns-clause-counted
returns-clause-counted c made n small is =
    let front = c.self.inside in
    counted front.bytes _ front.start front.stop front.end n c.self.invariant (omega (arith, c.self.told)) refl (omega (arith, c.if-digit-ge57.false)) small
    (ap (λ (v : FrontValue). v.number) c.self.view_is ∙ is)
    ∙ ap (λ (v : FrontValue). record v { number = decimal (n + 1) }) c.self.view_is
