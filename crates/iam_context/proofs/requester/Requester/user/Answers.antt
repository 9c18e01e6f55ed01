use Rattle.std.proofs.Common.{None}
use Rattle.iam_context.specs.Code.ArnParts.{requester_of}
use Rattle.iam_context.proofs.RequesterLemmas.{on_error, user_from_parts}
use Rattle.iam_context.proofs.requester.Requester.user.Goals as goal

pub returns-in_err-of-in-Some-clause-memory : goal.returns-in_err-of-in-Some-clause-memory
returns-in_err-of-in-Some-clause-memory c =
    on_error c.from_residual.result
    (requester_of c.in-Some.parts None, user_from_parts c.args.arn.now c.in-Some.parts c.in-Some.ensures.value)
