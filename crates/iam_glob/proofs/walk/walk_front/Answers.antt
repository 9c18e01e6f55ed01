use Rattle.std.proofs.Common.{arith, length, sym, ◌∙◌, ◌<◌, ◌≤◌}
use Rattle.iam_glob.specs.Signs.{signs_in}
use Rattle.iam_glob.proofs.WalkLemmas.{along_off, along_whole, along_more}
use Rattle.iam_glob.proofs.walk.walk_front.Goals as goal

pub returns-in-None : goal.returns-in-None
returns-in-None c =
    let below : c.loop-i.i < length (signs_in c.args.signs) = omega arith in
    along_off _ _ _ _ _ _ below (rw c.at-sign.ensures at c.in_default.not-Any) (rw c.at-sign.ensures at c.in-None.ensures.none) c.loop-i.invariant.1

pub returns-then-is_empty : goal.returns-then-is_empty
returns-then-is_empty c =
    let all : length (signs_in c.args.signs) ≤ c.loop-i.i = omega arith in
    along_whole _ _ _ _ _ all (sym c.is_empty.ensures ∙ c.if-is_empty.true) c.loop-i.invariant.1

pub returns-else-is_empty : goal.returns-else-is_empty
returns-else-is_empty c =
    let all : length (signs_in c.args.signs) ≤ c.loop-i.i = omega arith in
    along_more _ _ _ _ _ all c.loop-i.invariant.0 (sym c.is_empty.ensures ∙ c.if-is_empty.false) c.loop-i.invariant.1
