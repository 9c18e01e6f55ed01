use Rattle.std.proofs.Common.{take}
use Rattle.iam_index.specs.Elements.{TellSome}
use Rattle.iam_index.proofs.elements.element_of.Given as goal

abbrev pub invariant-loop-pattern : goal.invariant-loop-pattern
invariant-loop-pattern l = TellSome l.world l.acting (take l.pattern-index l.action.patterns) l.acts.items
