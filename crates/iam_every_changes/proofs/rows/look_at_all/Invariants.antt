use Rattle.std.proofs.Common.{map, string_bytes, take}
use Rattle.iam_every_changes.specs.Code.Given.{AreWalksIn, target_of}
use Rattle.iam_every_changes.specs.Code.Looked.{Adds}
use Rattle.iam_every_changes.specs.Made.{AreJoined, AreOfAction}
use Rattle.iam_every_changes.specs.States.{both_of}
use Rattle.iam_every_changes.proofs.rows.look_at_all.Given as goal

abbrev pub invariant-loop-action : goal.invariant-loop-action
invariant-loop-action l = record {
  walks : AreWalksIn (both_of l.given.both) l.walks;
  looked : Adds l.fn.looked (AreJoined (AreOfAction (both_of l.given.both) (map target_of l.given.targets.now))
      (map string_bytes (take l.action-index l.actions))) l.looked;
}
