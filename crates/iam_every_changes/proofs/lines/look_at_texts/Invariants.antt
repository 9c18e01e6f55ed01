use Rattle.std.proofs.Common.{◌≡◌, Some, map, string_bytes, take}
use Rattle.std.specs.List.{slice_get}
use Rattle.iam_every.specs.Every.{LineValue}
use Rattle.iam_every_changes.specs.Code.Looked.{Adds}
use Rattle.iam_every_changes.specs.Made.{AreJoined, AreOfText}
use Rattle.iam_every_changes.specs.States.{both_of}
use Rattle.iam_every_changes.proofs.lines.look_at_texts.Given as goal

abbrev pub invariant-loop-text : goal.invariant-loop-text
invariant-loop-text l = (was now : LineValue) → slice_get (both_of l.given.both).before.every.lines l.k ≡ Some was
    → slice_get (both_of l.given.both).after.every.lines l.k ≡ Some now
    → Adds l.fn.looked (AreJoined (AreOfText (both_of l.given.both) l.action l.k was now) (map string_bytes (take l.text-index l.texts))) l.looked
