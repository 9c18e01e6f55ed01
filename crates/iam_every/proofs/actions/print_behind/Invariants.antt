use Rattle.std.proofs.Common.{◌≡◌, drop}
use Rattle.iam_glob.specs.Signs.{signs_in}
use Rattle.iam_every.specs.Elements.{print_behind}
use Rattle.iam_every.proofs.actions.print_behind.Given as goal

abbrev pub invariant-loop-i : goal.invariant-loop-i
invariant-loop-i l = print_behind l.print (drop l.i (signs_in l.signs)) ≡ print_behind l.fn.print (signs_in l.signs)
