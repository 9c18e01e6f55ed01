use Rattle.crossbeam_deque.specs.Handles.{worker_port, worker_view}
use Rattle.iam_work.proofs.Deques.{takes}
use Rattle.iam_work.proofs.work.Work.pop.Goals as goal

pub pop_as-requires-clause-fifo : goal.pop_as-requires-clause-fifo
pop_as-requires-clause-fifo c fifo = takes (worker_port c.seat.inside.owner) (worker_view c.seat.inside.owner)
