use Rattle.std.proofs.Common.{arith}
use Rattle.iam_lanes.proofs.Calls.{allows_offer, same_lanes}
use Rattle.iam_lanes.proofs.lanes.Lanes.offer.Goals as goal

pub fetch_min-requires : goal.fetch_min-requires
fetch_min-requires c =
    let pass = c.seat.inside.pass in
    let plan = c.self.inside.plan in
    let table = c.self.inside.table.shared in
    let laid = c.self.invariant.1 in
    let same = same_lanes pass.table_id table.table_id pass.me.0 plan.lengths.items plan.seats c.args.seat.now c.args.self.now c.seat.view_is c.requires.seat c.self.view_is in
    let wide = laid.wide in
    (same.here, omega arith, allows_offer table.key plan c.self.invariant.0 table.table_id laid pass.id pass.me c.seat.invariant.alone same.lengths c.args.cell c.requires.cell)
