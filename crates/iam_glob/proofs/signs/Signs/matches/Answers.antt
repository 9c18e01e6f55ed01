use Rattle.std.specs.Str.{chars}
use Rattle.iam_glob.specs.Signs.{signs_in}
use Rattle.iam_glob.proofs.WalkLemmas.{kept_matches}
use Rattle.iam_glob.proofs.signs.Signs.matches.Goals as goal

pub returns : goal.returns
returns c =
    let same = kept_matches (signs_in c.args.self) (chars c.args.text.now) in
    (λ t. same.0 (c.matches.ensures.0 t), λ m. c.matches.ensures.1 (same.1 m))
