use Rattle.std.proofs.Common.{List, subst, sym, ℕ}
use Rattle.iam_text.specs.Code.Kept.{OneDraft}
use Rattle.iam_text.proofs.KeptLemmas.{kept_same}
use Rattle.iam_text.proofs.draft.Draft.stretches.Goals as goal

pub invariant_of-result : goal.invariant_of-result
invariant_of-result c =
    let P : List ℕ → Type 0 = λ t. OneDraft c.self.inside.version c.self.inside.wild t in
    (subst P (sym c.as_str.ensures) c.self.inside.pieces, tt)

pub returns : goal.returns
returns c =
    let left = c.self.inside in
    rw (← c.self.view_is) (search (kept_same left.version left.wild left.text c.as_str.result.now c.as_str.ensures left.pieces))
