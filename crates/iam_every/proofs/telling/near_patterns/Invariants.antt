use Rattle.std.proofs.Common.{◌≡◌, map, take}
use Rattle.iam_glob.specs.Signs.{signs_in}
use Rattle.iam_every.specs.Groups.{signs_of}
use Rattle.iam_every.specs.Telling.{near}
use Rattle.iam_every.proofs.telling.near_patterns.Given as goal

abbrev pub invariant-loop-pattern : goal.invariant-loop-pattern
invariant-loop-pattern l = map signs_in l.lent.items ≡ near (signs_in l.line) (map signs_of (take l.pattern-index l.patterns))
