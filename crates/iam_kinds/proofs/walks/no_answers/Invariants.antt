use Rattle.std.proofs.Common.{◌≡◌, None, replicate}
use Rattle.iam_kinds.proofs.walks.no_answers.Given as goal

abbrev pub invariant-loop-slot : goal.invariant-loop-slot
invariant-loop-slot l = l.slots.items ≡ replicate l._slot None
