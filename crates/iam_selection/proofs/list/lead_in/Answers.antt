use Rattle.std.proofs.Common.{◌∙◌, arith}
use Rattle.iam_selection.proofs.Written.{lead_at}
use Rattle.iam_selection.proofs.list.lead_in.Goals as goal

pub returns-then-len-gt0 : goal.returns-then-len-gt0
returns-then-len-gt0 c =
    c.cell.ensures
    ∙ lead_at c.args.tiles.now c.loop-tile.tile-index c.tile-item.result c.loop-tile-test.true c.tile-item.is c.loop-tile.invariant (omega (arith, c.if-len-gt0.true, c.len.ensures))
