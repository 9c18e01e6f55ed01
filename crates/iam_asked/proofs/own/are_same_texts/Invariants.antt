use Rattle.std.proofs.Common.{◌≡◌, take}
use Rattle.iam_asked.proofs.own.are_same_texts.Given as goal

abbrev pub invariant-loop-i : goal.invariant-loop-i
invariant-loop-i l = take l.i l.texts ≡ take l.i l.others
