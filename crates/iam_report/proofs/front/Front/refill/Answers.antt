use Rattle.std.proofs.Common.{◌++◌, ◌∙◌, ap}
use Rattle.iam_report.specs.Code.Front.{FrontValue}
use Rattle.iam_report.proofs.Fronts.{refilled}
use Rattle.iam_report.proofs.front.Front.refill.Goals as goal

pub returns : goal.returns
returns c fits =
    let front = c.self.inside in
    let behind = c.args.first.now ++ c.args.second.now in
    refilled front.bytes c.put_two.new.bytes behind front.start front.stop front.end c.in-Some.end c.self.told c.self.invariant c.in-Some.ensures
    ∙ ap (λ (v : FrontValue). record v { behind = behind }) c.self.view_is
