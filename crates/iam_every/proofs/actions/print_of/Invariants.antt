use Rattle.std.proofs.Common.{◌≡◌, drop}
use Rattle.iam_every.specs.Elements.{print_of}
use Rattle.iam_every.proofs.actions.print_of.Given as goal

abbrev pub invariant-loop-pattern : goal.invariant-loop-pattern
invariant-loop-pattern l = print_of l.print (drop l.pattern-index l.pattern-items) ≡ print_of 0 l.element.patterns
