use Rattle.std.proofs.Common.{◌<◌, add-one, arith, length}
use Rattle.iam_glob.specs.Signs.{signs_in}
use Rattle.iam_glob.proofs.AsciiLemmas.{begins_more}
use Rattle.iam_glob.proofs.ascii.last_in_front.Goals as goal

pub loop-i-preserved : goal.loop-i-preserved
loop-i-preserved c =
    let below : c.loop-i.i < length (signs_in c.args.signs) = omega (arith, c.loop-i-test.true, c.len-i-end.ensures) in
    let begins = begins_more _ _ _ below (rw c.at-sign.ensures at c.in_default.not-Any) c.loop-i.invariant.begins in
    record { begins = rw add-one begins; last = (below, begins, c.at-sign.ensures) }
