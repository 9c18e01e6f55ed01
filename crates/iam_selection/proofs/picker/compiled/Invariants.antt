use Rattle.std.proofs.Common.{◌≡◌, take}
use Rattle.iam_selection.proofs.picker.compiled.Given as goal

abbrev pub invariant-loop-pattern : goal.invariant-loop-pattern
invariant-loop-pattern l = l.compiled.items ≡ take l.pattern-index l.patterns
