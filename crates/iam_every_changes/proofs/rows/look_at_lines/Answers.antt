use Rattle.iam_every_changes.specs.Made.{AreOfLine}
use Rattle.iam_every_changes.specs.States.{both_of}
use Rattle.iam_every_changes.proofs.JoinLemmas.{adds_next}
use Rattle.iam_every_changes.proofs.rows.look_at_lines.Goals as goal

pub loop-k-preserved : goal.loop-k-preserved
loop-k-preserved c = record {
  walks = c.look_at_line.ensures.walks;
  looked = adds_next (AreOfLine (both_of c.args.given.both) c.args.action.now) c.loop-k.k c.args.looked.now c.loop-k.looked c.look_at_line.new.looked
      c.loop-k.invariant.looked c.in_ok-look_at_line.ensures.looked;
}
