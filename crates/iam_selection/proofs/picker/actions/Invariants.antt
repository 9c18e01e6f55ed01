use Rattle.iam_selection.specs.Code.Listing.{AreFlags, IsActionMeant}
use Rattle.iam_selection.proofs.picker.actions.Given as goal

abbrev pub invariant-loop-a : goal.invariant-loop-a
invariant-loop-a l = AreFlags (IsActionMeant l.selection l.world) l.a l.flags.items
