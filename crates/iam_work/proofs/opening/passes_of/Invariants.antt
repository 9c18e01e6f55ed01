use Rattle.std.proofs.Common.{◌≡◌, map, take, All}
use Rattle.crossbeam_deque.specs.Handles.{worker_deque}
use Rattle.iam_work.specs.Code.Fields.{pass_deque, IsUnused, IsNew}
use Rattle.iam_work.proofs.opening.passes_of.Given as goal

abbrev pub invariant-loop-k : goal.invariant-loop-k
invariant-loop-k l = record {
  unused : All (IsUnused l.grains) l.owners;
  deques : map worker_deque l.owners ≡ map worker_deque l.initial.owners;
  passes : map pass_deque l.passes.items ≡ map worker_deque (take l.k l.owners);
  fresh : All (IsNew l.grains) l.passes.items;
}
