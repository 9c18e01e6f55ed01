use Rattle.std.proofs.Common.{refl}
use Rattle.std.proofs.lemmas.Result.{IfOk-weaker}
use Rattle.iam_match.specs.Statement.{request_for}
use Rattle.iam_layers.proofs.CellLemmas.{is_asked}
use Rattle.iam_layers.proofs.world.World.decide_plain.Goals as goal

pub returns : goal.returns
returns c =
    let world = c.args.self.now in
    let action = c.action_text.result.now in
    let (applicable, access, at, own) = c.in_ok-shared.ensures in
    IfOk-weaker c.verdict.result _ _
    (λ verdict holds. (applicable, request_for access action, (access, action, at, c.action_text.ensures, refl), holds))
    (c.verdict.ensures world.actions applicable access (is_asked world c.args.a action c.action_text.ensures) own)
