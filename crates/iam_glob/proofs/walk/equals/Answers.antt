use Rattle.std.proofs.Common.{map}
use Rattle.std.specs.Str.{chars}
use Rattle.iam_glob.specs.Code.Walk.{char_in}
use Rattle.iam_glob.specs.Signs.{signs_in}
use Rattle.iam_glob.proofs.GivenLemmas.{equal_given, equal_walks, given_walks}
use Rattle.iam_glob.proofs.walk.equals.Goals as goal

pub returns-then-matches : goal.returns-then-matches
returns-then-matches c =
    let f = char_in c.args.case in
    let text = chars c.args.text.now in (
      λ t. given_walks f (signs_in c.args.signs) text (c.are_given.ensures.0 t) (c.matches.ensures.0 c.if-matches.true),
      λ e. c.are_given.ensures.1 (equal_given f (signs_in c.args.signs) (map f text) e),
    )

pub returns-else-matches : goal.returns-else-matches
returns-else-matches c =
    let f = char_in c.args.case in (
      λ t. absurd (let wrong : ⊥ = cc in wrong),
      λ e. let walks = c.matches.ensures.1 (equal_walks f (signs_in c.args.signs) (chars c.args.text.now) e) in absurd (let wrong : ⊥ = cc in wrong),
    )
