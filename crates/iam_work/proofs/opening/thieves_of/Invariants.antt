use Rattle.std.proofs.Common.{◌≡◌, map, take}
use Rattle.crossbeam_deque.specs.Handles.{worker_deque, stealer_deque}
use Rattle.iam_work.proofs.opening.thieves_of.Given as goal

abbrev pub invariant-loop-owner : goal.invariant-loop-owner
invariant-loop-owner l = map stealer_deque l.thieves.items ≡ map worker_deque (take l.owner-index l.owners)
