use Rattle.std.proofs.Common.{◌≡◌, take}
use Rattle.iam_app.specs.Code.Naming.{patterns_of}
use Rattle.iam_app.proofs.every.patterns_of.Given as goal

abbrev pub invariant-loop-line : goal.invariant-loop-line
invariant-loop-line l = l.patterns.items ≡ patterns_of (take l.line-index l.lines)
