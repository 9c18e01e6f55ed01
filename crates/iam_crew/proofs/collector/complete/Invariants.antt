use Rattle.std.proofs.Common.{◌≡◌, All, IfSome, length}
use Rattle.iam_crew.specs.Bound.{Lowers}
use Rattle.iam_crew.specs.Code.Order.{IsCompleted}
use Rattle.iam_crew.proofs.collector.complete.Given as goal

abbrev pub invariant-loop-slot : goal.invariant-loop-slot
invariant-loop-slot g l = record {
  count : length l.outputs.items ≡ length l.yielded;
  each : IsCompleted (g.C.Crew.gives l.crew) l.bound.floor l.yielded l.outputs.items;
  fits : IfSome l.tools (g.C.Crew.fits l.crew);
  offered : All (g.C.Crew.offers l.crew) l.bound.offers;
  lower : Lowers l.initial.bound l.bound;
}
