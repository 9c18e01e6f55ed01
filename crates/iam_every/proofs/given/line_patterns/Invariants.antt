use Rattle.std.proofs.Common.{◌≡◌, map, take}
use Rattle.iam_glob.specs.Signs.{signs_in}
use Rattle.iam_every.specs.Every.{patterns_of}
use Rattle.iam_every.specs.Every.{line_of}
use Rattle.iam_every.proofs.given.line_patterns.Given as goal

abbrev pub invariant-loop-line : goal.invariant-loop-line
invariant-loop-line l = map signs_in l.patterns.items ≡ patterns_of (map line_of (take l.line-index l.lines))
