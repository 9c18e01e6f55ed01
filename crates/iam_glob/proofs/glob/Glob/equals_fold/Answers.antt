use Rattle.std.proofs.Common.{◌↔◌, List, IsTrue, subst, map}
use Rattle.std.specs.Str.{chars}
use Rattle.iam_glob.specs.declared.sign.Sign.{Sign}
use Rattle.iam_glob.specs.Glob.{Equals, folded, sign_by}
use Rattle.iam_glob.proofs.glob.Glob.equals_fold.Goals as goal

pub returns : goal.returns
returns c =
    let text = map folded (chars c.args.text.now) in
    let P : List Sign → Type 0 = λ s. IsTrue c.equals.result ↔ Equals (map (sign_by folded) s) text in
    subst P (c.signs.ensures) c.equals.ensures
