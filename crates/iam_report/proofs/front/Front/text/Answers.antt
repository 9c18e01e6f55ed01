use Rattle.std.proofs.Common.{◌++◌, ◌∙◌, ap}
use Rattle.iam_report.specs.Code.Front.{FrontValue}
use Rattle.iam_report.proofs.Fronts.{whole_text}
use Rattle.iam_report.proofs.front.Front.text.Goals as goal

pub returns : goal.returns
returns c =
    let front = c.self.inside in
    whole_text front.bytes front.start front.stop front.end c.self.invariant
    ∙ ap (λ (v : FrontValue). v.before ++ (v.number ++ v.behind)) c.self.view_is
