use Rattle.std.proofs.Common.{ℕ, ◌+◌, ◌≤◌, List, All, Some, sym, subst, arith}
use Rattle.std.proofs.lemmas.List.{length_push}
use Rattle.std.proofs.lemmas.List.Elements.{All-pop, All-push}
use Rattle.iam_crew.specs.declared.seats.Seats.{Seats}
use Rattle.iam_crew.specs.Code.Runs.{IsDealt}
use Rattle.iam_crew.specs.Code.Worker.{IsFresh, IsReady}
use Rattle.iam_crew.proofs.Workers.{is_ready}
use Rattle.iam_crew.proofs.seats.deal.Goals as goal

pub loop-seat-preserved : goal.loop-seat-preserved
loop-seat-preserved c =
    let P : Seats → Type 0 = IsReady c.args.lanes.now c.args.work.now in
    let so_far = c.loop-seat.invariant in
    let in_hand = c.push_own-in_hand.result in
    let after = c.push_own-in_hand.new.seat in
    let own = c.push_own-in_hand.ensures in
    let one : Seats = record { bound = c.in-Some-pop.bound; work = after; in_hand = in_hand } in
    let more = length_push c.loop-seat.yielded c.in-Some.seat in
    let popped = All-pop (IsFresh c.args.lanes.now) c.loop-seat.bounds.items c.pop.new.self.items (Some c.in-Some-pop.bound) c.in-Some-pop.ensures.items so_far.fresh in
    let dealt =
    subst (λ (tiles : ℕ). IsDealt tiles c.args.work.now.seats after in_hand) (sym c.requires.tiles)
    (subst (λ (workers : ℕ). IsDealt c.args.shares.tiles workers after in_hand) (sym c.requires.workers) own.dealt) in
    let inside : in_hand.first + in_hand.count ≤ c.args.work.now.grains = omega (arith, c.requires.tiles, own.inside) in
    record {
      count = omega (arith, more, c.in_ok-push.ensures.len, so_far.count);
      left = omega (arith, more, c.in-Some-pop.ensures.len, so_far.left);
      fresh = popped.0;
      ready = subst (λ (all : List Seats). All P all) (sym c.in_ok-push.ensures.items)
          (All-push P c.loop-seat.all.items one so_far.ready (is_ready c.args.lanes.now c.args.work.now one popped.1 own.own own.marked dealt inside));
    }
