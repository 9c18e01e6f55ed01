use Rattle.std.proofs.Common.{◌≡◌, ◌<◌, List, length, map, set, sym, ap, ◌∙◌, subst, arith}
use lib.ListN.{get_elem?}
use Rattle.crossbeam_deque.specs.Handles.{SamePass, stealer_deque, view, worker_view}
use Rattle.iam_work.specs.declared.run.Run.{Run}
use Rattle.iam_work.specs.Work.{WorkId, SeatView, work_id, gains_stolen, IsWithin}
use Rattle.iam_work.specs.Code.Fields.{RunPass, pass_deque, pass_taken, seat_view}
use Rattle.iam_work.proofs.Lists.{same_at, same_length}
use Rattle.iam_work.proofs.Deques.{takes}
use Rattle.iam_work.proofs.Seats.{SameWork, same_work}
use Rattle.iam_work.proofs.Thefts.{still_knows, if_took, if_nothing, deques_stay, ready_before, ready_after, takes_more, takes_none}
use Rattle.iam_work.proofs.work.Work.steal.Goals as goal
use Rattle.iam_work.proofs.work.Work.steal.Goals.{After-index_mut}

-- the seat is one of this work
same : (c : After-index_mut) → SameWork c.seat.inside.pass.table_id c.self.inside.table.shared.table_id c.seat.inside.pass.me.0 (map pass_deque c.seat.inside.passes.items) (map stealer_deque c.self.inside.thieves.items) c.self.inside.plan.grains c.self.inside.plan.seats
same c =
    let seat = c.seat.inside in
    let work = c.self.inside in
    same_work seat.pass.table_id work.table.shared.table_id seat.pass.me.0 seat.number (worker_view seat.owner) seat.passes.items (map stealer_deque work.thieves.items) work.plan.grains work.plan.seats c.args.seat.now c.args.self.now c.seat.view_is c.requires.seat c.self.view_is

-- there is such a deque, and a pass of it
inside_thieves : (c : After-index_mut) → c.args.from < length c.self.inside.thieves.items
inside_thieves c =
    let from = subst (λ (w : WorkId). c.args.from < w.seats) (sym c.self.view_is) c.requires.from in
    let many = c.self.invariant.2 in
    let ok = c.self.inside.thieves.ok.0 in
    omega arith

inside : (c : After-index_mut) → c.args.from < length c.seat.inside.passes.items
inside c =
    let there = inside_thieves c in
    let long = same_length pass_deque stealer_deque c.seat.inside.passes.items c.self.inside.thieves.items (same c).deques in
    omega arith

pub steal_as-requires-clause-table : goal.steal_as-requires-clause-table
steal_as-requires-clause-table c =
    let passes = c.seat.inside.passes.items in
    let p = c.index_mut.result.now in
    let of_deque = same_at pass_deque stealer_deque passes c.self.inside.thieves.items c.args.from p c.index-thief.result.now (same c).deques (inside c) (inside_thieves c) c.index_mut.ensures.value c.index-thief.ensures in
    let ready = ready_before c.seat.inside.pass.me.0.grains passes c.args.from p (inside c) c.index_mut.ensures.value c.seat.invariant.ready in
    (ap (λ d. d.0) of_deque, ap (λ d. d.1) of_deque, ready.0, ready.1)

pub steal_as-requires-clause-takes : goal.steal_as-requires-clause-takes
steal_as-requires-clause-takes c = takes c.index_mut.result.now.id (view c.index_mut.result.now)

-- the deques stay, and the seat shows what its passes took
stay : (c : After-index_mut) (q : RunPass) → SamePass c.index_mut.result.now q → map pass_deque (set c.seat.inside.passes.items c.args.from q) ≡ map pass_deque c.seat.inside.passes.items
stay c q unmoved = deques_stay c.seat.inside.passes.items c.args.from c.index_mut.result.now q (inside c) c.index_mut.ensures.value unmoved

shows : (c : After-index_mut) (q : RunPass) → SamePass c.index_mut.result.now q → (stolen : List (List Run)) → map pass_taken (set c.seat.inside.passes.items c.args.from q) ≡ stolen
    → seat_view c.seat.inside.pass.table_id c.seat.inside.pass.me.0 c.seat.inside.number (worker_view c.seat.inside.owner) (set c.seat.inside.passes.items c.args.from q)
    ≡ record (seat_view c.seat.inside.pass.table_id c.seat.inside.pass.me.0 c.seat.inside.number (worker_view c.seat.inside.owner) c.seat.inside.passes.items) { stolen = stolen }
shows c q unmoved stolen took =
    let v = c.seat.inside.pass.me.0 in
    let own = worker_view c.seat.inside.owner in
    let deques = stay c q unmoved in
    λ i. record {
      work = work_id c.seat.inside.pass.table_id (deques i) v.grains v.all;
      number = c.seat.inside.number;
      marked = v.marked;
      found = v.found;
      pushed = own.pushed;
      popped = own.taken;
      stolen = took i;
    }

pub invariant_of-seat : goal.invariant_of-seat
invariant_of-seat c =
    let a = (goal.at.invariant_of-seat c).After-index_mut in
    let old = c.seat.invariant in
    let passes = c.seat.inside.passes.items in
    let p = c.index_mut.result.now in
    let q = c.steal_as.new.pass in
    record {
      empty = old.empty;
      alone = old.alone;
      fifo = old.fifo;
      knows = old.knows;
      owns = ap (λ ds. get_elem? ds c.seat.inside.number) (stay a q c.steal_as.ensures.same) ∙ old.owns;
      ready = ready_after passes c.args.from p q (inside a) c.index_mut.ensures.value c.steal_as.ensures.same c.seat.inside.pass.me.0.grains old.ready (still_knows c.steal_as.result (view p) (view q) _ c.steal_as.ensures.rule);
    }

pub returns-clause-within : goal.returns-clause-within
returns-clause-within c =
    let a = (goal.at.returns-clause-within c).After-index_mut in
    let p = c.index_mut.result.now in
    let q = c.steal_as.new.pass in
    let ready = ready_before c.seat.inside.pass.me.0.grains c.seat.inside.passes.items c.args.from p (inside a) c.index_mut.ensures.value c.seat.invariant.ready in
    let many = ready.2 ∙ (same a).grains ∙ ap (λ (w : WorkId). w.grains) c.self.view_is in
    if_took c.steal_as.result (view p) (view q) _ (IsWithin c.args.self.now.grains) c.stolen_of.result c.stolen_of.ensures c.steal_as.ensures.rule (λ run took within. subst (λ n. IsWithin n run) many within)

pub returns-clause-took : goal.returns-clause-took
returns-clause-took c =
    let a = (goal.at.returns-clause-took c).After-index_mut in
    let p = c.index_mut.result.now in
    let q = c.steal_as.new.pass in
    if_took c.steal_as.result (view p) (view q) _ (λ run. seat_view c.seat.inside.pass.table_id c.seat.inside.pass.me.0 c.seat.inside.number (worker_view c.seat.inside.owner) (set c.seat.inside.passes.items c.args.from q) ≡ gains_stolen c.args.from run c.args.seat.now)
    c.stolen_of.result c.stolen_of.ensures c.steal_as.ensures.rule
    (λ run took within. shows a q c.steal_as.ensures.same _ (takes_more c.seat.inside.passes.items c.args.from p q (inside a) c.index_mut.ensures.value c.steal_as.ensures.same run took) ∙ ap (gains_stolen c.args.from run) c.seat.view_is)

pub returns-clause-nothing : goal.returns-clause-nothing
returns-clause-nothing c =
    let a = (goal.at.returns-clause-nothing c).After-index_mut in
    let p = c.index_mut.result.now in
    let q = c.steal_as.new.pass in
    if_nothing c.steal_as.result (view p) (view q) _ (seat_view c.seat.inside.pass.table_id c.seat.inside.pass.me.0 c.seat.inside.number (worker_view c.seat.inside.owner) (set c.seat.inside.passes.items c.args.from q) ≡ c.args.seat.now)
    c.stolen_of.result c.stolen_of.ensures c.steal_as.ensures.rule
    (λ nothing. shows a q c.steal_as.ensures.same _ (takes_none c.seat.inside.passes.items c.args.from p q (inside a) c.index_mut.ensures.value c.steal_as.ensures.same nothing) ∙ c.seat.view_is)

pub returns-clause-work : goal.returns-clause-work
returns-clause-work c =
    let a = (goal.at.returns-clause-work c).After-index_mut in
    let q = c.steal_as.new.pass in
    let v = c.seat.inside.pass.me.0 in
    (λ i. work_id c.seat.inside.pass.table_id (stay a q c.steal_as.ensures.same i) v.grains v.all) ∙ ap (λ (s : SeatView). s.work) c.seat.view_is ∙ c.requires.seat
