use Rattle.std.specs.List.{range_with_len}
use Rattle.iam_every_changes.specs.Code.Given.{AreWalksIn}
use Rattle.iam_every_changes.specs.Code.Looked.{Adds}
use Rattle.iam_every_changes.specs.Made.{AreJoined, AreOfLine}
use Rattle.iam_every_changes.specs.States.{both_of}
use Rattle.iam_every_changes.proofs.rows.look_at_lines.Given as goal

abbrev pub invariant-loop-k : goal.invariant-loop-k
invariant-loop-k l = record {
  walks : AreWalksIn (both_of l.given.both) l.walks;
  looked : Adds l.fn.looked (AreJoined (AreOfLine (both_of l.given.both) l.action) (range_with_len 0 l.k)) l.looked;
}
