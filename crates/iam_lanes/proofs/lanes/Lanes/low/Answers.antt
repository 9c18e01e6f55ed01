use Rattle.std.proofs.Common.{◌≡◌, ℕ, ◌+◌, ◌<◌, ◌≤◌, arith}
use Rattle.iam_lanes.specs.Lanes.{no_cell, times}
use Rattle.iam_lanes.proofs.Calls.{allows_look, same_lanes, look_least, some_at, none_at, none_below}
use Rattle.iam_lanes.proofs.lanes.Lanes.low.Goals as goal
use Rattle.iam_lanes.proofs.lanes.Lanes.low.Goals.{After-load-found}

pub load-found-requires : goal.load-found-requires
load-found-requires c =
    let pass = c.seat.inside.pass in
    let plan = c.self.inside.plan in
    let table = c.self.inside.table.shared in
    let laid = c.self.invariant.1 in
    let same = same_lanes pass.table_id table.table_id pass.me.0 plan.lengths.items plan.seats c.args.seat.now c.args.self.now c.seat.view_is c.requires c.self.view_is in
    let wide = laid.wide in
    (same.here, omega arith, allows_look table.key plan c.self.invariant.0 table.table_id laid pass.id pass.me c.seat.invariant.alone same.lengths)

-- what was found is at or below all that the seat offered or saw
least : (c : After-load-found) → (other : ℕ) → 0 < times other c.args.seat.now.offers + times other c.args.seat.now.looks → c.load-found.result ≤ other
least c = let pass = c.seat.inside.pass in look_least pass.table_id pass.me.0 c.args.seat.now c.load-found.result c.seat.view_is c.load-found.ensures.2.0.least

pub returns-clause-least : goal.returns-clause-least
returns-clause-least c =
    let seat = c.args.seat.now in
    some_at c.cell_of.result c.load-found.result (λ cell. (other : ℕ) → 0 < times other seat.offers + times other seat.looks → cell ≤ other) c.cell_of.ensures.some
    (least (goal.at.returns-clause-least c).After-load-found)

pub returns-clause-nothing : goal.returns-clause-nothing
returns-clause-nothing c =
    let seat = c.args.seat.now in
    none_at c.cell_of.result (c.load-found.result ≡ no_cell) ((other : ℕ) → other < no_cell → times other seat.offers + times other seat.looks ≡ 0) c.cell_of.ensures.none
    (λ e other h. none_below c.load-found.result other (times other seat.offers + times other seat.looks) (least (goal.at.returns-clause-nothing c).After-load-found other) (omega arith))
