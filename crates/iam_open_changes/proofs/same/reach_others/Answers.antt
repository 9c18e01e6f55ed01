use Rattle.iam_open_changes.proofs.ReachLemmas.{reach_more}
use Rattle.iam_open_changes.proofs.same.reach_others.Goals as goal

pub loop-one-preserved : goal.loop-one-preserved
loop-one-preserved c =
    reach_more c.args.effect c.args.ones.now c.args.others.now c.loop-one.one-index c.one-item.result c.loop-one-test.true c.one-item.is
    c.loop-one.invariant (c.in_ok-reaches_if.ensures c.if-not-branch.false)
