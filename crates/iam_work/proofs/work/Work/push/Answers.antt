use Rattle.std.proofs.Common.{ap, subst, sym, ◌∙◌}
use Rattle.crossbeam_deque.specs.Handles.{worker_port, worker_view}
use Rattle.iam_work.specs.Work.{WorkId, IsWithin}
use Rattle.iam_work.proofs.Deques.{pushes}
use Rattle.iam_work.proofs.work.Work.push.Goals as goal

pub push_as-requires-clause-pushes : goal.push_as-requires-clause-pushes
push_as-requires-clause-pushes c =
    let owner = c.seat.inside.owner in
    let many = c.seat.invariant.knows ∙ ap (λ s. s.work.grains) c.seat.view_is ∙ ap (λ (w : WorkId). w.grains) c.requires.seat in
    pushes (worker_port owner) (worker_view owner) c.args.run (subst (λ n. IsWithin n c.args.run) (sym many) c.requires.run)
