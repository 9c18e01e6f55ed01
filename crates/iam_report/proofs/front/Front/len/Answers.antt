use Rattle.std.proofs.Common.{◌++◌, ◌∙◌, ap, length}
use Rattle.iam_report.specs.Code.Front.{FrontValue}
use Rattle.iam_report.proofs.Fronts.{whole_len}
use Rattle.iam_report.proofs.front.Front.len.Goals as goal

pub returns : goal.returns
returns c =
    let front = c.self.inside in
    whole_len front.bytes front.start front.stop front.end c.self.told c.self.invariant
    ∙ ap (λ (v : FrontValue). length (v.before ++ (v.number ++ v.behind))) c.self.view_is
