use Rattle.iam_context.proofs.RequesterLemmas.{held}
use Rattle.iam_context.proofs.requester.Requester.of.Goals as goal

pub invariant_of-result : goal.invariant_of-result
invariant_of-result c =
    held c.args.arn.now _ _ _ _ c.args.parts c.args.session c.in_ok-from_str-4.ensures.ok c.in_ok-from_str.ensures.ok c.in_ok-from_str-2.ensures.ok
    c.in_ok-from_str-3.ensures.ok c.requires.requester c.requires.session
