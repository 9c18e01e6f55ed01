use Rattle.std.proofs.Common.{arith}
use Rattle.iam_match.proofs.StatementLemmas.{all_taken}
use Rattle.iam_open_changes.specs.Code.Implied.{IsWithin}
use Rattle.iam_open_changes.proofs.AllLemmas.{all_more}
use Rattle.iam_open_changes.proofs.implied.are_within.Goals as goal

pub loop-one-preserved : goal.loop-one-preserved
loop-one-preserved c =
    all_more (IsWithin c.args.base c.args.others.now) c.args.ones.now c.loop-one.one-index c.one-item.result c.loop-one-test.true c.one-item.is
    c.loop-one.invariant (c.in_ok-is_within.ensures c.if-not-branch.false)

pub returns : goal.returns
returns c = λ t.
    all_taken (IsWithin c.args.base c.args.others.now) c.args.ones.now c.loop-one.one-index (omega (arith, c.loop-one-test.false)) c.loop-one.invariant
