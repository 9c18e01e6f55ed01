use Rattle.std.proofs.Common.{◌∙◌, ◌+◌, ap, arith, decimal, refl}
use Rattle.iam_report.specs.Code.Front.{FrontValue}
use Rattle.iam_report.proofs.Fronts.{carried}
use Rattle.iam_report.proofs.front.Front.carry.Goals as goal

pub returns-clause-counted : goal.returns-clause-counted
returns-clause-counted c made n small is =
    let front = c.self.inside in
    carried front.bytes _ front.start front.stop front.end n c.self.invariant (omega (arith, c.self.told)) (omega (arith, c.if-self-lt2.false)) refl
    (omega (arith, c.if-tens-ge57.false)) (omega (arith, c.if-self-ne57.false)) small (ap (λ (v : FrontValue). v.number) c.self.view_is ∙ is)
    ∙ ap (λ (v : FrontValue). record v { number = decimal (n + 1) }) c.self.view_is
