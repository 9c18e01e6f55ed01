use Rattle.std.proofs.Common.{◌≡◌, map}
use Rattle.std.specs.List.{flat_map}
use Rattle.iam_crew.proofs.collector.part.Given as goal

abbrev pub invariant-loop-done : goal.invariant-loop-done
invariant-loop-done g l = record {
  seats : l.seats.items ≡ map (λ d. d.seat) l.yielded;
  made : l.all.items ≡ flat_map (λ d. d.made.items) l.yielded;
}
