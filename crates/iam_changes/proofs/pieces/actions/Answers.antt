use Rattle.std.proofs.Common.{◌∙◌}
use Rattle.iam_row.specs.Code.ChangeParts.{change_action}
use Rattle.iam_changes.proofs.Texts.{one_more}
use Rattle.iam_changes.proofs.pieces.actions.Goals as goal

pub loop-a-preserved : goal.loop-a-preserved
loop-a-preserved c =
    c.in_ok-push.ensures.items
    ∙ one_more (change_action c.args.format) c.args.world.now.actions c.loop-a.texts.items c.loop-a.a c.action_text.result.now c.in_ok-change_action.field-0 c.loop-a.invariant c.action_text.ensures (c.in_ok-change_action.ensures)
