use Rattle.std.proofs.Common.{map, take}
use Rattle.iam_every_changes.specs.Code.Given.{target_of}
use Rattle.iam_every_changes.specs.Code.Looked.{Adds}
use Rattle.iam_every_changes.specs.Made.{AreJoined, AreOfTarget}
use Rattle.iam_every_changes.specs.States.{both_of}
use Rattle.iam_every_changes.proofs.rows.look_at_targets.Given as goal

abbrev pub invariant-loop-target : goal.invariant-loop-target
invariant-loop-target l =
    Adds l.fn.looked (AreJoined (AreOfTarget (both_of l.given.both) l.action) (map target_of (take l.target-index l.targets))) l.looked
