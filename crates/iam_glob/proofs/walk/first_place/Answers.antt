use Rattle.std.specs.Str.{chars}
use Rattle.iam_glob.specs.Code.Walk.{char_in, Walks, Later, found_in}
use Rattle.iam_glob.specs.Signs.{signs_in}
use Rattle.iam_glob.proofs.WalkLemmas.{settles_found, front_fewer, later_none, not_off}
use Rattle.iam_glob.proofs.walk.first_place.Goals as goal

pub returns-in_default : goal.returns-in_default
returns-in_default c = record {
  settles =
      settles_found (char_in c.args.case) (signs_in c.args.signs) (chars c.loop-found.text.now)
      (Later (Walks (char_in c.args.case) (signs_in c.args.signs)) (chars c.args.text.now))
      (found_in c.walk_front.result) c.walk_front.ensures (not_off c.walk_front.result c.in_default.not-Off) c.loop-found.invariant.1;
  fewer = front_fewer (char_in c.args.case) (signs_in c.args.signs) (chars c.loop-found.text.now) (found_in c.walk_front.result) c.walk_front.ensures;
}

pub returns-in-None-clause-settles : goal.returns-in-None-clause-settles
returns-in-None-clause-settles c =
    later_none (char_in c.args.case) (Walks (char_in c.args.case) (signs_in c.args.signs))
    (Later (Walks (char_in c.args.case) (signs_in c.args.signs)) (chars c.args.text.now)) (chars c.loop-found.text.now)
    c.in-Off.ensures c.in-None.ensures.none c.loop-found.invariant.1
