use Rattle.std.proofs.Common.{map, subst, sym, ◌<◌, arith}
use Rattle.crossbeam_deque.specs.Handles.{stealer_deque, worker_view}
use Rattle.iam_work.specs.Work.{WorkId}
use Rattle.iam_work.proofs.Seats.{same_work, allows_mark}
use Rattle.iam_work.proofs.Steps.{word_within}
use Rattle.iam_work.proofs.work.Work.mark.Goals as goal

pub fetch_or-found-requires : goal.fetch_or-found-requires
fetch_or-found-requires c =
    let seat = c.seat.inside in
    let work = c.self.inside in
    let pass = seat.pass in
    let plan = work.plan in
    let table = work.table.shared in
    let laid = c.self.invariant.1 in
    let same = same_work pass.table_id table.table_id pass.me.0 seat.number (worker_view seat.owner) seat.passes.items (map stealer_deque work.thieves.items) plan.grains plan.seats c.args.seat.now c.args.self.now c.seat.view_is c.requires.seat c.self.view_is in
    let inside = subst (λ (w : WorkId). c.args.grain < w.grains) (sym c.self.view_is) c.requires.grain in
    let wide = laid.wide in
    let within = word_within plan.grains c.args.grain inside in
    let alone = c.seat.invariant.alone in
    (same.here, omega arith, allows_mark table.key plan c.self.invariant.0 table.table_id.slots pass.id pass.me (omega arith) c.args.grain inside)
