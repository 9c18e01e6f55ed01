use Rattle.std.proofs.Common.{map, ap, ◌∙◌}
use Rattle.crossbeam_deque.specs.Handles.{worker_deque, stealer_deque}
use Rattle.iam_work.proofs.Lists.{map_next}
use Rattle.iam_work.proofs.opening.thieves_of.Goals as goal

pub loop-owner-preserved : goal.loop-owner-preserved
loop-owner-preserved c =
    let i = c.loop-owner.owner-index in
    let owner = c.owner-item.result in
    ap (map stealer_deque) c.in_ok-push.ensures.items
    ∙ map_next stealer_deque worker_deque c.loop-owner.thieves.items c.in_ok-stealer.field-0 c.args.owners.now i owner c.loop-owner-test.true c.loop-owner.invariant (c.in_ok-stealer.ensures.0 ∙ ap worker_deque c.owner-item.is)
