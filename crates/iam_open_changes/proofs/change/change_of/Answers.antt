use Rattle.std.proofs.lemmas.Result.{IfOk-weaker}
use Rattle.iam_open_changes.proofs.change.change_of.Goals as goal

pub returns : goal.returns
returns c =
    let both = c.args.both in
    IfOk-weaker c.scene_change.result _ _
    (λ change told. told both.before.now both.after.now both.was both.now c.of.ensures c.of-2.ensures) c.scene_change.ensures
