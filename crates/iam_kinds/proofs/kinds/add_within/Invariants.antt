use Rattle.std.proofs.Common.{◌≡◌, ◌++◌, drop, map}
use Rattle.iam_kinds.specs.Answers.{pairs_of, signs_of}
use Rattle.iam_kinds.specs.States.{numbered_within}
use Rattle.iam_kinds.proofs.kinds.add_within.Given as goal

abbrev pub invariant-loop-signs : goal.invariant-loop-signs
invariant-loop-signs l =
    (l.group ≡ l.signs-index)
    × (pairs_of l.fn.listed.items ++ numbered_within 0 (map (signs_of l.fold) l.within) ≡ pairs_of l.listed.items ++ numbered_within l.group (map (signs_of l.fold) (drop l.signs-index l.within)))
