use Rattle.std.proofs.Common.{◌≡◌, ◌≤◌, List, ◌∷◌, [], ◌++◌, All, Some, sym, ap, ◌∙◌, subst, ⊎_elim, arith}
use Rattle.std.proofs.lemmas.List.Elements.{All-pop, All-push}
use Rattle.std.proofs.lemmas.Option.{IfSome_then}
use Rattle.iam_lanes.specs.Lanes.{SeatView}
use Rattle.iam_crew.specs.Bound.{BoundView, floor_of, bound_of}
use Rattle.iam_crew.proofs.Bounds.{low_below, offered_in}
use Rattle.iam_crew.proofs.collector.finish.Goals as goal

-- what holds of all seats holds of the one that was taken out and of the others
popped : (P : SeatView → Type 0) (all rest : List SeatView) (seat : SeatView) → all ≡ rest ++ seat ∷ [] → All P all → All P rest × P seat
popped P all rest seat same holds = All-pop P all rest (Some seat) same holds

-- and so does what holds of these two
pushed : (P : SeatView → Type 0) (all rest : List SeatView) (seat : SeatView) → all ≡ rest ++ seat ∷ [] → All P rest → P seat → All P all
pushed P all rest seat same others one = subst (λ (ss : List SeatView). All P ss) (sym same) (All-push P rest seat others one)

pub new-bound-requires : goal.new-bound-requires
new-bound-requires g c = (popped (λ s. s.lanes ≡ c.args.lanes) c.args.seats.items c.pop.new.self.items c.in-Some.seat c.in-Some.ensures.items c.requires.lanes).1

pub complete-requires-clause-offered : goal.complete-requires-clause-offered
complete-requires-clause-offered g c κs within =
    let offers = g.C.Crew.offers c.args.crew.now in
    subst (λ (b : BoundView). All offers b.offers) (sym c.new-bound.ensures)
    (popped (λ s. All offers s.offers) c.args.seats.items c.pop.new.self.items c.in-Some.seat c.in-Some.ensures.items c.requires.offered).1

pub close-closed-requires-clause-count : goal.close-closed-requires-clause-count
close-closed-requires-clause-count g c = omega (arith, c.in_ok-push.ensures.len, c.in-Some.ensures.len, c.requires.count)

pub close-closed-requires-clause-lanes : goal.close-closed-requires-clause-lanes
close-closed-requires-clause-lanes g c =
    let P : SeatView → Type 0 = λ s. s.lanes ≡ c.args.lanes in
    let before = popped P c.args.seats.items c.pop.new.self.items c.in-Some.seat c.in-Some.ensures.items c.requires.lanes in
    let of = λ (b : BoundView). b.of in
    pushed P c.push.new.self.items c.pop.new.self.items c.into_seat.result c.in_ok-push.ensures.items before.0
    (ap of c.into_seat.ensures ∙ c.in_ok-outputs.ensures.lower.0 ∙ ap of c.new-bound.ensures ∙ before.1)

pub returns-clause-given : goal.returns-clause-given
returns-clause-given g c tile output at =
    let closed = c.close-closed.ensures in
    let low = bound_of c.close-closed.result.low in
    let P : SeatView → Type 0 = λ s. low ≤ floor_of s in
    let after = popped P c.push.new.self.items c.pop.new.self.items c.into_seat.result c.in_ok-push.ensures.items
    (low_below c.close-closed.result.low c.push.new.self.items closed.cell closed.least closed.none closed.looks) in
    let floor = λ (b : BoundView). b.floor in
    let back = ap floor c.into_seat.ensures in
    let came = ap floor c.new-bound.ensures in
    let lower = c.in_ok-outputs.ensures.lower.1 in
    let last = after.1 in
    ⊎_elim
    (λ brought. c.requires.given low (pushed P c.args.seats.items c.pop.new.self.items c.in-Some.seat c.in-Some.ensures.items after.0 (omega arith)) tile output brought)
    (λ made. g.met.C.Crew.lasts c.args.crew.now tile output c.complete.new.bound.floor low (omega arith) made)
    (c.in_ok-outputs.ensures.from.each tile output at)

pub returns-clause-low : goal.returns-clause-low
returns-clause-low g c =
    let offers = g.C.Crew.offers c.args.crew.now in
    let P : SeatView → Type 0 = λ s. All offers s.offers in
    let before = popped P c.args.seats.items c.pop.new.self.items c.in-Some.seat c.in-Some.ensures.items c.requires.offered in
    let all = pushed P c.push.new.self.items c.pop.new.self.items c.into_seat.result c.in_ok-push.ensures.items before.0
    (subst (λ (b : BoundView). All offers b.offers) (sym c.into_seat.ensures) c.in_ok-outputs.ensures.offered) in
    IfSome_then c.close-closed.result.low c.close-closed.ensures.low (λ cell offered. offered_in offers cell c.push.new.self.items all offered)
