use Rattle.std.proofs.Common.{take}
use Rattle.iam_services.specs.Services.{AreServices}
use Rattle.iam_index.proofs.elements.found_services.Given as goal

abbrev pub invariant-loop-a : goal.invariant-loop-a
invariant-loop-a l = AreServices (take l.a l.world.actions) l.services
