use Rattle.std.proofs.Common.{arith, rules}
use Rattle.iam_glob.specs.Code.Walk.{char_in}
use Rattle.iam_glob.specs.Signs.{signs_in}
use Rattle.iam_glob.proofs.BackLemmas.{back_step, back_stops, take_last}
use Rattle.iam_glob.proofs.walk.walk_back.Goals as goal

pub loop-len-preserved : goal.loop-len-preserved
loop-len-preserved c =
    let split = take_last (signs_in c.args.signs) c.loop-len.len c.at-last.result _ (omega arith) c.loop-len.invariant.1 c.at-last.ensures in (
      search rules,
      omega arith,
      back_step (char_in c.args.case) _ _ _ _ _ _ c.in_default.not-Any split c.in-Some.ensures.some c.loop-len.invariant.2,
    )

pub returns-in-None : goal.returns-in-None
returns-in-None c =
    let split = take_last (signs_in c.args.signs) c.loop-len.len c.at-last.result _ (omega arith) c.loop-len.invariant.1 c.at-last.ensures in record {
      some = tt;
      none = back_stops (char_in c.args.case) _ _ _ _ _ c.in_default.not-Any split c.in-None.ensures.none c.loop-len.invariant.2;
    }
