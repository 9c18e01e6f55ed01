use Rattle.iam_selection.specs.Code.Listing.{AreFlags, IsResourceMeant}
use Rattle.iam_selection.proofs.picker.resources.Given as goal

abbrev pub invariant-loop-r : goal.invariant-loop-r
invariant-loop-r l = AreFlags (IsResourceMeant l.selection l.world) l.r l.flags.items
