use Rattle.std.proofs.Common.{◌++◌, ◌∙◌, ap, map, sym}
use Rattle.std.proofs.lemmas.Iterator.{YieldsList-from_chars}
use Rattle.std.proofs.lemmas.Iterator.Consumers.{YieldsList-end}
use Rattle.iam_glob.specs.Glob.{sign_of}
use Rattle.iam_glob.proofs.WalkLemmas.{map_same}
use Rattle.iam_glob.proofs.sign.add_characters.Goals as goal

pub returns : goal.returns
returns c =
    let all = YieldsList-end (YieldsList-from_chars c.args.text.now c.utf8.text cc) c.loop-character.yielded _ c.loop-character.yielded_by _ _ c.in-None.is c.next.ensures.steps in
    c.loop-character.invariant
    ∙ ap (λ cs. c.args.signs.now.items ++ map (sign_of c.args.wild) cs) (sym (map_same c.loop-character.yielded) ∙ all.0)
