use Rattle.std.proofs.Common.{◌≡◌, min, ap, ◌∙◌, arith}
use Rattle.iam_lanes.specs.Lanes.{SeatView}
use Rattle.iam_crew.specs.Bound.{BoundView, floor_of, bound_of}
use Rattle.iam_crew.proofs.Bounds.{floor_look, low_small, low_least_of}
use Rattle.iam_crew.proofs.bound.Bound.look.Goals as goal
use Rattle.iam_crew.proofs.bound.Bound.look.Goals.{After-low}

-- the floor is now the least of what it was and of what was found
found : (c : After-low) → floor_of c.low.new.seat ≡ min (bound_of c.low.result) (floor_of c.self.inside.seat)
found c = ap floor_of c.low.ensures.gained ∙ floor_look (bound_of c.low.result) c.self.inside.seat (low_small c.low.result c.low.ensures.cell)

pub returns-clause-seen : goal.returns-clause-seen
returns-clause-seen c =
    let e = found c in
    let low = c.low.result in
    let below = low_least_of low c.self.inside.seat c.low.ensures.least c.low.ensures.nothing (low_small low c.low.ensures.cell) in
    omega arith

pub returns-clause-lower : goal.returns-clause-lower
returns-clause-lower c =
    let e = found c in
    let before = ap (λ (v : BoundView). v.floor) c.self.view_is in
    (ap (λ (s : SeatView). s.lanes) c.low.ensures.gained ∙ ap (λ (v : BoundView). v.of) c.self.view_is, omega arith)
