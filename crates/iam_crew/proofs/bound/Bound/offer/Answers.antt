use Rattle.std.proofs.Common.{◌≡◌, min, ap, ◌∙◌, arith}
use Rattle.iam_lanes.specs.Lanes.{SeatView}
use Rattle.iam_crew.specs.Bound.{BoundView, floor_of}
use Rattle.iam_crew.proofs.Bounds.{floor_offer}
use Rattle.iam_crew.proofs.bound.Bound.offer.Goals as goal
use Rattle.iam_crew.proofs.bound.Bound.offer.Goals.{After-offer}

-- the floor is now the least of what it was and of the cell
offered : (c : After-offer) → floor_of c.offer.new.seat ≡ min c.args.cell (floor_of c.self.inside.seat)
offered c = ap floor_of c.offer.ensures ∙ floor_offer c.args.cell c.self.inside.seat (omega arith)

pub returns-clause-offered : goal.returns-clause-offered
returns-clause-offered c = let e = offered c in omega arith

pub returns-clause-lower : goal.returns-clause-lower
returns-clause-lower c =
    let e = offered c in
    let before = ap (λ (v : BoundView). v.floor) c.self.view_is in
    (ap (λ (s : SeatView). s.lanes) c.offer.ensures ∙ ap (λ (v : BoundView). v.of) c.self.view_is, omega arith)
