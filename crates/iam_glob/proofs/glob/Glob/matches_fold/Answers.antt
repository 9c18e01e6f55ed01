use Rattle.std.proofs.Common.{◌↔◌, List, IsTrue, subst}
use Rattle.std.specs.Str.{chars}
use Rattle.iam_glob.specs.declared.sign.Sign.{Sign}
use Rattle.iam_glob.specs.Code.Walk.{Walks}
use Rattle.iam_glob.specs.Glob.{folded}
use Rattle.iam_glob.proofs.WalkLemmas.{folded_matches}
use Rattle.iam_glob.proofs.glob.Glob.matches_fold.Goals as goal

pub returns : goal.returns
returns c =
    let P : List Sign → Type 0 = λ s. IsTrue c.matches.result ↔ Walks folded s (chars c.args.text.now) in
    let walks = subst P (c.signs.ensures) c.matches.ensures in
    let same = folded_matches c.args.self.now (chars c.args.text.now) in
    (λ t. same.0 (walks.0 t), λ m. walks.1 (same.1 m))
