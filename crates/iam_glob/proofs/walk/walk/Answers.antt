use Rattle.std.specs.Str.{chars}
use Rattle.iam_glob.specs.Code.Walk.{char_in, star}
use Rattle.iam_glob.specs.Signs.{signs_in}
use Rattle.iam_glob.proofs.WalkLemmas.{settles_front}
use Rattle.iam_glob.proofs.walk.walk.Goals as goal

pub returns-in-Star : goal.returns-in-Star
returns-in-Star c =
    let front =
    settles_front (char_in c.args.case) (signs_in c.args.signs) (chars c.args.text.now) (star (signs_in c.in-Star.signs) (chars c.in-Star.text.now))
    c.in-Star.ensures in
    (λ t. front.1 (c.end_matches.ensures.0 t), λ w. c.end_matches.ensures.1 (front.0 w))
