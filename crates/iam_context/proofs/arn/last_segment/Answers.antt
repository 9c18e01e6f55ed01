use Rattle.std.proofs.Common.{arith}
use Rattle.iam_context.proofs.PathLemmas.{last_found, last_whole}
use Rattle.iam_context.proofs.arn.last_segment.Goals as goal

pub returns-in-Some : goal.returns-in-Some
returns-in-Some c =
    let split = c.in-Some.ensures.cases in
    last_found c.args.path.now c.in-Some.name.now split.0 split.1 split.2 split.4 (omega (arith, split.6))

pub returns-in-None : goal.returns-in-None
returns-in-None c = last_whole c.args.path.now c.in-None.ensures.cases
