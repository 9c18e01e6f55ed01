use Rattle.iam_glob.specs.Code.Walk.{char_in, Walks, Later, found_at}
use Rattle.iam_glob.specs.Signs.{signs_in}
use Rattle.iam_glob.proofs.AsciiLemmas.{not_off_at}
use Rattle.iam_glob.proofs.WalkLemmas.{settles_found, front_fewer}
use Rattle.iam_glob.proofs.ascii.first_place.Goals as goal

pub returns-in_default : goal.returns-in_default
returns-in_default c = record {
  settles =
      settles_found (char_in c.args.case) (signs_in c.args.signs) c.loop-found.text.now
      (Later (Walks (char_in c.args.case) (signs_in c.args.signs)) c.args.text.now)
      (found_at c.try_front.result) c.try_front.ensures (not_off_at c.try_front.result c.in_default.not-Off) c.loop-found.invariant;
  fewer = front_fewer (char_in c.args.case) (signs_in c.args.signs) c.loop-found.text.now (found_at c.try_front.result) c.try_front.ensures;
}
