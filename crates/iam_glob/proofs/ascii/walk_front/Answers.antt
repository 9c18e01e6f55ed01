use Rattle.std.proofs.Common.{arith, length, ◌≤◌}
use Rattle.iam_glob.specs.Signs.{signs_in}
use Rattle.iam_glob.proofs.AsciiLemmas.{along_rest}
use Rattle.iam_glob.proofs.ascii.walk_front.Goals as goal

pub returns-else-len-text : goal.returns-else-len-text
returns-else-len-text c =
    let all : length (signs_in c.args.signs) ≤ c.loop-i.i = omega arith in
    along_rest _ _ _ _ all (omega arith) c.loop-i.invariant.1
