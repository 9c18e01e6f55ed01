use Rattle.std.proofs.Common.{◌∙◌, ap}
use Rattle.iam_world.specs.World.{ResourceValue}
use Rattle.iam_row.specs.Piece.{resource_piece}
use Rattle.iam_row.proofs.Texts.{one_more}
use Rattle.iam_row.proofs.quoted.resources.Goals as goal

pub loop-r-preserved : goal.loop-r-preserved
loop-r-preserved c =
    c.in_ok-push.ensures.items
    ∙ one_more (λ (x : ResourceValue). resource_piece c.args.format x.arn) c.args.world.now.resources c.loop-r.texts.items c.loop-r.r c.resource_text.ensures.0 c.in_ok-resource_piece.field-0 c.loop-r.invariant c.resource_text.ensures.1 (c.in_ok-resource_piece.ensures ∙ ap (resource_piece c.args.format) c.resource_text.ensures.2)
