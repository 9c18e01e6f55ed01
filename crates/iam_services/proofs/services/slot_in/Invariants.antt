use Rattle.std.proofs.Common.{◌≡◌, drop, option_map}
use Rattle.iam_services.specs.Services.{service, slot_of}
use Rattle.iam_services.proofs.ServiceLemmas.{slot_from}
use Rattle.iam_services.proofs.services.slot_in.Given as goal

abbrev pub invariant-loop-i : goal.invariant-loop-i
invariant-loop-i l = option_map slot_of (service l.pattern) ≡ slot_from l.print (service (drop l.i l.pattern))
