use Rattle.iam_selection.specs.Code.Listing.{AreFlags, IsPrincipalMeant}
use Rattle.iam_selection.proofs.picker.principals.Given as goal

abbrev pub invariant-loop-p : goal.invariant-loop-p
invariant-loop-p l = AreFlags (IsPrincipalMeant l.selection l.world) l.p l.flags.items
