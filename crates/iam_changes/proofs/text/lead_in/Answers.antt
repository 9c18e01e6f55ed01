use Rattle.std.proofs.Common.{◌∙◌, arith}
use Rattle.iam_changes.proofs.Written.{lead_at}
use Rattle.iam_changes.proofs.text.lead_in.Goals as goal

pub returns-then-len-gt0 : goal.returns-then-len-gt0
returns-then-len-gt0 c =
    c.cell.ensures.cell
    ∙ lead_at c.args.parts.now c.loop-part.part-index c.part-item.result c.loop-part-test.true c.part-item.is c.loop-part.invariant (omega (arith, c.if-len-gt0.true, c.len.ensures))
