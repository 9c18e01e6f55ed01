use Rattle.std.proofs.Common.{◌≡◌, map, take}
use Rattle.iam_glob.specs.Signs.{signs_in}
use Rattle.iam_every.proofs.actions.lent_globs.Given as goal

abbrev pub invariant-loop-pattern : goal.invariant-loop-pattern
invariant-loop-pattern l = map signs_in l.lent.items ≡ take l.pattern-index l.patterns
