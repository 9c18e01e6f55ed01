use Rattle.std.proofs.Common.{◌≡◌, ◌+◌, ◌≤◌}
use Rattle.iam_crew.specs.Code.Runs.{turns_of}
use Rattle.iam_crew.specs.Code.Worker.{IsAtWork}
use Rattle.iam_crew.proofs.worker.Job.take_turns.Given as goal

abbrev pub invariant-loop-turn : goal.invariant-loop-turn
invariant-loop-turn g l = record {
  worker : IsAtWork g.C.Crew.fits g.C.Crew.offers g.C.Crew.gives l.self l.worker;
  inside : l.run.first + l.run.count ≤ l.self.work.grains;
  turns : turns_of l.worker.seat l.worker.halves ≡ turns_of l.initial.worker.seat l.initial.worker.halves + l._turn;
  idle : l.worker.idle ≤ l.initial.worker.idle;
}
