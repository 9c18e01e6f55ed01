use Rattle.std.proofs.Common.{refl}
use Rattle.iam_world_context.proofs.contexts.check_part.Goals as goal

pub returns-in-Some-clause-fault : goal.returns-in-Some-clause-fault
returns-in-Some-clause-fault c = λ other keys has. (c.in-Some.fault, refl, rw c.in-Some.is at (c.in_ok-fault.ensures keys has))

pub returns-in-None-clause-clean : goal.returns-in-None-clause-clean
returns-in-None-clause-clean c = λ keys has. rw c.in-None.is at (c.in_ok-fault.ensures keys has)
