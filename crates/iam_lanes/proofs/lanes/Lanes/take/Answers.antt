use Rattle.std.proofs.Common.{◌≡◌, ℕ, ◌<◌, ◌≤◌, false, length, get_or, ltb, refl, sym, ap, ◌∙◌, subst, arith}
use Rattle.std.proofs.lemmas.List.{get_or_read}
use Rattle.iam_lanes.specs.Code.LaneRule.{with_number, with_end}
use Rattle.iam_lanes.specs.Code.Words.{FindsCount}
use Rattle.iam_lanes.specs.Lanes.{LanesId, left_in, gains_number, times, times_taken}
use Rattle.iam_lanes.specs.Code.Fields.{seat_view}
use Rattle.iam_lanes.proofs.Calls.{allows_take, same_lanes, unflagged, takes_number, takes_end, nearer, flags_set, shows_number}
use Rattle.iam_lanes.proofs.lanes.Lanes.take.Goals as goal
use Rattle.iam_lanes.proofs.lanes.Lanes.take.Goals.{After-fetch_add-found}

pub fetch_add-found-requires : goal.fetch_add-found-requires
fetch_add-found-requires c =
    let pass = c.seat.inside.pass in
    let plan = c.self.inside.plan in
    let table = c.self.inside.table.shared in
    let laid = c.self.invariant.1 in
    let same = same_lanes pass.table_id table.table_id pass.me.0 plan.lengths.items plan.seats c.args.seat.now c.args.self.now c.seat.view_is c.requires.seat c.self.view_is in
    let inside = subst (λ (l : LanesId). c.args.lane < length l.lengths) (sym c.self.view_is) c.requires.lane in
    let few = laid.few_lanes in
    let flag = c.seat.invariant.flagged c.args.lane (omega arith) in
    let no_end = unflagged (get_or c.seat.inside.ended c.args.lane false) (times c.args.lane pass.me.0.ends) flag c.if-seat-lane.false in
    let wide = laid.wide in
    (same.here, omega arith, allows_take table.key plan c.self.invariant.0 table.table_id laid pass.id pass.me c.seat.invariant.alone same.lengths c.args.lane inside no_end)

-- the length of the lane, as the seat's view has it
length_is : (c : After-fetch_add-found) → c.index-length.result.now ≡ get_or c.seat.inside.pass.me.0.lengths c.args.lane 0
length_is c =
    let pass = c.seat.inside.pass in
    let plan = c.self.inside.plan in
    let inside = subst (λ (l : LanesId). c.args.lane < length l.lengths) (sym c.self.view_is) c.requires.lane in
    let same = same_lanes pass.table_id c.self.inside.table.shared.table_id pass.me.0 plan.lengths.items plan.seats c.args.seat.now c.args.self.now c.seat.view_is c.requires.seat c.self.view_is in
    get_or_read plan.lengths.items c.args.lane c.index-length.result.now inside c.index-length.ensures 0 ∙ ap (λ ls. get_or ls c.args.lane 0) (sym same.lengths)

-- what the take found
finds : (c : After-fetch_add-found) → FindsCount c.args.lane c.fetch_add-found.result c.seat.inside.pass.me.0 c.fetch_add-found.new.seat.me.0
finds c = c.fetch_add-found.ensures.2.0 c.args.lane refl

-- the view after a number, and after an end
number : (c : After-fetch_add-found) → c.fetch_add-found.result < c.index-length.result.now → c.fetch_add-found.new.seat.me.0 ≡ with_number c.args.lane c.fetch_add-found.result c.seat.inside.pass.me.0
number c below =
    let v = c.seat.inside.pass.me.0 in
    let len = length_is c in
    takes_number v.lengths c.args.lane c.fetch_add-found.result v c.fetch_add-found.new.seat.me.0 (finds c).view (omega arith)

end : (c : After-fetch_add-found) → c.index-length.result.now ≤ c.fetch_add-found.result → c.fetch_add-found.new.seat.me.0 ≡ with_end c.args.lane c.seat.inside.pass.me.0
end c past =
    let v = c.seat.inside.pass.me.0 in
    let len = length_is c in
    takes_end v.lengths c.args.lane c.fetch_add-found.result v c.fetch_add-found.new.seat.me.0 (finds c).view (omega arith)

-- what is given is what was found
pub returns-clause-fresh : goal.returns-clause-fresh
returns-clause-fresh c =
    let e : c.in-Some.number ≡ c.fetch_add-found.result = c.in-Some.ensures.number in
    let told = (finds (goal.at.returns-clause-fresh c).After-fetch_add-found).fresh in
    λ m h. ap (λ s. times_taken c.args.lane m s.taken) (sym c.seat.view_is) ∙ told m (omega (arith, e, h))

-- the seat gains the number
gained : (c : After-fetch_add-found) → c.fetch_add-found.result < c.index-length.result.now
    → seat_view c.fetch_add-found.new.seat.table_id c.fetch_add-found.new.seat.me.0 ≡ gains_number c.args.lane c.fetch_add-found.result c.args.seat.now
gained c below =
    let pass = c.seat.inside.pass in
    let after = c.fetch_add-found.new.seat in
    let e = number c below in
    shows_number pass.table_id after.table_id pass.me.0 after.me.0 c.args.seat.now c.args.lane c.fetch_add-found.result c.fetch_add-found.ensures.0 e c.seat.view_is

pub returns-clause-gained : goal.returns-clause-gained
returns-clause-gained c =
    let e = c.in-Some.ensures.number in
    let below = c.in-Some.ensures.inside in
    gained (goal.at.returns-clause-gained c).After-fetch_add-found (omega (arith, e, below)) ∙ ap (λ n. gains_number c.args.lane n c.args.seat.now) (sym e)

pub returns-clause-nearer : goal.returns-clause-nearer
returns-clause-nearer c =
    let a = (goal.at.returns-clause-nearer c).After-fetch_add-found in
    let seat = c.args.seat.now in
    let n : ℕ = c.fetch_add-found.result in
    let len = length_is a in
    let lengths = ap (λ s. get_or s.lanes.lengths c.args.lane 0) c.seat.view_is in
    let e : c.in-Some.number ≡ n = c.in-Some.ensures.number in
    let inside : c.in-Some.number < c.index-length.result.now = c.in-Some.ensures.inside in
    let below : n < c.index-length.result.now = omega (arith, e, inside) in
    let fresh : (m : ℕ) → n ≤ m → times_taken c.args.lane m seat.taken ≡ 0 = λ m h. ap (λ s. times_taken c.args.lane m s.taken) (sym c.seat.view_is) ∙ (finds a).fresh m h in
    subst (λ s. left_in c.args.lane s < left_in c.args.lane seat) (sym (gained a below)) (nearer c.args.lane n seat (omega (arith, below, len, lengths)) fresh)

-- the end is the seat's first of the lane
first : (c : After-fetch_add-found) → times c.args.lane c.seat.inside.pass.me.0.ends ≡ 0
first c =
    let inside = subst (λ (l : LanesId). c.args.lane < length l.lengths) (sym c.self.view_is) c.requires.lane in
    let few = c.self.invariant.1.few_lanes in
    let flag = c.seat.invariant.flagged c.args.lane (omega arith) in
    unflagged (get_or c.seat.inside.ended c.args.lane false) (times c.args.lane c.seat.inside.pass.me.0.ends) flag c.if-seat-lane.false

pub invariant_of-seat-in_default : goal.invariant_of-seat-in_default
invariant_of-seat-in_default c =
    let a = (goal.at.invariant_of-seat-in_default c).After-fetch_add-found in
    let e = end a c.in_default.ensures.ended in
    let inside = subst (λ (l : LanesId). c.args.lane < length l.lengths) (sym c.self.view_is) c.requires.lane in
    let few = c.self.invariant.1.few_lanes in
    let told = c.seat.told in
    let before = c.seat.inside.pass.me.0.ends in
    record {
      empty = c.fetch_add-found.ensures.2.1 ∙ c.seat.invariant.empty;
      alone = ap (λ v. v.seats) e ∙ c.seat.invariant.alone;
      flagged = λ lane h. flags_set c.seat.inside.ended c.args.lane before (omega arith) c.seat.invariant.flagged lane h ∙ ap (λ v. ltb 0 (times lane v.ends)) (sym e);
    }
