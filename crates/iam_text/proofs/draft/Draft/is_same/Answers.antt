use Rattle.std.proofs.Common.{◌≡◌, ◌∙◌, sym, rules}
use Rattle.iam_text.proofs.KeptLemmas.{kept_alike}
use Rattle.iam_text.proofs.draft.Draft.is_same.Goals as goal

-- src/draft.rt:116:9
pub returns : goal.returns
returns c = λ yes.
    sym c.self.view_is ∙ kept_alike _ _ _ _ _ _ (search rules) (search rules) (search rules) c.self.inside.pieces c.other.inside.pieces
    ∙ c.other.view_is
