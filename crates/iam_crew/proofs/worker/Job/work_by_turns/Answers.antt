use Rattle.std.proofs.Common.{◌≡◌, ℕ, true, List, map, sym, ap, subst, ◌∙◌}
use Rattle.iam_crew.specs.Bound.{BoundView, view_of}
use Rattle.iam_crew.specs.Code.Job.{JobView}
use Rattle.iam_crew.specs.Code.Runs.{turns_of}
use Rattle.iam_crew.specs.Code.Worker.{AreGiven}
use Rattle.iam_crew.specs.declared.worker.Made.{Made}
use Rattle.iam_crew.proofs.Workers.{begun_with, makes_none, may_stop}
use Rattle.iam_crew.proofs.worker.Job.work_by_turns.Goals as goal

pub take_turns-requires-clause-worker : goal.take_turns-requires-clause-worker
take_turns-requires-clause-worker g c κs within =
    let job = c.args.self.now in
    let begun = begun_with job.lanes job.work c.args.seats c.requires in
    let tiles_of : List (Made g.row.C-Output.Denot) → List ℕ = map (λ m. m.tile) in
    record {
      seat = begun.1.0;
      number = begun.1.1;
      tools = subst (λ (j : JobView g.row.C.Denot). g.C.Crew.fits j.crew c.in_ok-tools.field-0) c.self.view_is c.in_ok-tools.ensures;
      marked = ap tiles_of c.new-2.ensures.items ∙ sym begun.2;
      made = makes_none job.work.grains job.lanes (g.C.Crew.offers job.crew) (g.C.Crew.gives job.crew) c.new.result c.new-2.result.items
          (ap (λ (b : BoundView). b.of) c.new.ensures ∙ begun.0.0) (ap (λ (b : BoundView). b.offers) c.new.ensures ∙ begun.0.1) c.new-2.ensures.items;
    }

pub take_turns-requires-clause-in_hand : goal.take_turns-requires-clause-in_hand
take_turns-requires-clause-in_hand g c κs within = (begun_with c.args.self.now.lanes c.args.self.now.work c.args.seats c.requires).3

pub new-requires : goal.new-requires
new-requires g c =
    let begun = begun_with c.args.self.now.lanes c.args.self.now.work c.args.seats c.requires in
    begun.0.0 ∙ sym (ap (λ (j : JobView g.row.C.Denot). j.lanes) c.self.view_is)

pub returns : goal.returns
returns g c =
    let job = c.args.self.now in
    let offers = g.C.Crew.offers job.crew in
    let gives = g.C.Crew.gives job.crew in
    let worker = c.take_turns.new.worker in
    let made = worker.made.items in
    let at_work = c.in_ok-take_turns.ensures.worker in
    let same = subst (λ (j : JobView g.row.C.Denot). j.work.grains ≡ j.tiles) c.self.view_is c.self.invariant.tiles in
    record {
      given =
          subst (λ (n : ℕ). AreGiven {O = g.row.C-Output.Denot} n job.lanes offers gives (view_of c.into_seat.result) made) same
          (subst (λ (b : BoundView). AreGiven {O = g.row.C-Output.Denot} job.work.grains job.lanes offers gives b made) (sym c.into_seat.ensures) at_work.made);
      marked = at_work.marked;
      stopped = may_stop job.tiles (turns_of c.args.seats.work true) (turns_of worker.seat worker.halves) worker.idle c.in_ok-take_turns.ensures.over;
    }
