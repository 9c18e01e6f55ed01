use Rattle.std.proofs.Common.{◌≡◌, ◌++◌, drop, map}
use Rattle.iam_kinds.specs.Answers.{pairs_of, signs_of}
use Rattle.iam_kinds.specs.States.{with_number}
use Rattle.iam_kinds.proofs.kinds.add_group.Given as goal

abbrev pub invariant-loop-signs : goal.invariant-loop-signs
invariant-loop-signs l =
    pairs_of l.fn.listed.items ++ with_number l.group (map (signs_of l.fold) l.patterns)
    ≡ pairs_of l.listed.items ++ with_number l.group (map (signs_of l.fold) (drop l.signs-index l.patterns))
