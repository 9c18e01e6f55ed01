use Rattle.std.proofs.Common.{◌∙◌, ap}
use Rattle.iam_world.specs.World.{PrincipalValue}
use Rattle.iam_layers.specs.Cell.{principal_text}
use Rattle.iam_row.specs.Piece.{principal_piece}
use Rattle.iam_row.proofs.Texts.{one_more}
use Rattle.iam_row.proofs.quoted.principals.Goals as goal

pub loop-p-preserved : goal.loop-p-preserved
loop-p-preserved c =
    c.in_ok-push.ensures.items
    ∙ one_more (λ (x : PrincipalValue). principal_piece c.args.format (principal_text x)) c.args.world.now.principals c.loop-p.texts.items c.loop-p.p c.principal_text.ensures.0 c.in_ok-principal_piece.field-0 c.loop-p.invariant c.principal_text.ensures.1 (c.in_ok-principal_piece.ensures ∙ ap (principal_piece c.args.format) c.principal_text.ensures.2)
