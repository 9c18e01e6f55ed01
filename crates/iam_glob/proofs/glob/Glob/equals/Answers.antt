use Rattle.std.proofs.Common.{◌↔◌, List, IsTrue, subst, map, ℕ}
use Rattle.std.specs.Str.{chars}
use Rattle.iam_glob.specs.declared.sign.Sign.{Sign}
use Rattle.iam_glob.specs.Glob.{Equals, sign_by}
use Rattle.iam_glob.proofs.WalkLemmas.{map_same, signs_same}
use Rattle.iam_glob.proofs.glob.Glob.equals.Goals as goal

pub returns : goal.returns
returns c =
    let text = chars c.args.text.now in
    let P : List Sign → Type 0 = λ s. IsTrue c.equals.result ↔ Equals (map (sign_by (λ d. d)) s) (map (λ d. d) text) in
    let Q : List Sign → Type 0 = λ s. IsTrue c.equals.result ↔ Equals s (map (λ d. d) text) in
    let R : List ℕ → Type 0 = λ t. IsTrue c.equals.result ↔ Equals c.args.self.now t in
    subst R (map_same text) (subst Q (signs_same c.args.self.now) (subst P (c.signs.ensures) c.equals.ensures))
