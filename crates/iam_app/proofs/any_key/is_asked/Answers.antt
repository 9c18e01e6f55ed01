use Rattle.std.proofs.Common.{◌⊎◌, inl, inr, IsTrue, subst, sym}
use Rattle.std.proofs.lemmas.Result.{IfOk-weaker}
use Rattle.iam_selection.specs.Selection.{SelectionValue, SelectsSome}
use Rattle.iam_app.proofs.any_key.is_asked.Goals as goal

pub returns : goal.returns
returns c =
    let P : SelectionValue → Type 0 = λ selection. SelectsSome selection c.args.world.now in
    IfOk-weaker c.selects_some.result _ _
    (λ some is. (
      λ held. inr (subst P c.requires (is.0 held)),
      λ about.
          elim about [
            | inl nothing ↦ let told = c.is_nothing.ensures.1 nothing in let wrong : ⊥ = cc in absurd wrong
            | inr selects ↦ is.1 (subst P (sym c.requires) selects)
          ],
    ))
    c.selects_some.ensures
