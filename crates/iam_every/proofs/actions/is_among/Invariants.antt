use Rattle.std.proofs.Common.{Contains, map, take}
use Rattle.iam_every.proofs.actions.is_among.Given as goal

abbrev pub invariant-loop-other : goal.invariant-loop-other
invariant-loop-other l = ¬ Contains (map (λ e. e.now) (take l.other-index l.elements)) l.element
