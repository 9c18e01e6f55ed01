use Rattle.std.proofs.Common.{inl, inr, None, Some, string_bytes, subst, sym}
use Rattle.std.proofs.lemmas.Result.{on_ok_weaker}
use Rattle.iam_open.specs.Asked.{IsWanted, asked_of}
use Rattle.iam_open.specs.Rows.{word_of}
use Rattle.iam_open.specs.declared.asked.Word.{Word}
use Rattle.iam_open.proofs.PartLemmas.{together_nil}
use Rattle.iam_open.proofs.report.put_told.Goals as goal

pub returns-then-not-is_selected-clause-told : goal.returns-then-not-is_selected-clause-told
returns-then-not-is_selected-clause-told c = (
  None,
  inl (λ selected. let told = c.is_selected.ensures.1 selected in absurd (let wrong : ⊥ = cc in wrong)),
  sym (together_nil c.args.cells.quoted.now.format (string_bytes c.args.text.now)),
)

pub returns-then-not-is_wanted-clause-told : goal.returns-then-not-is_wanted-clause-told
returns-then-not-is_wanted-clause-told c =
    let at = c.args.at in (
      None,
      inr (
        c.in_ok-turned.turned,
        (at.principal, at.action, at.resource, c.requires.cell, c.in_ok-turned.ensures.turned),
        λ wanted.
            let told = c.is_wanted.ensures.1 (subst (λ (word : Word). IsWanted (asked_of c.args.cells.asked) word) (sym c.word_of.ensures) wanted) in
            absurd (let wrong : ⊥ = cc in wrong),
      ),
      sym (together_nil c.args.cells.quoted.now.format (string_bytes c.args.text.now)),
    )

pub returns-clause-told : goal.returns-clause-told
returns-clause-told c =
    let asked = asked_of c.args.cells.asked in
    let wanted : IsWanted asked (word_of c.in_ok-turned.turned) =
    subst (λ (word : Word). IsWanted asked word) c.word_of.ensures (c.is_wanted.ensures.0 c.if-not-is_wanted.false) in
    on_ok_weaker c.put_row.result
    (
    λ is. (
      Some is.0,
      (c.is_selected.ensures.0 c.if-not-is_selected.false, subst (λ t. IsWanted asked (word_of t)) (sym is.2) wanted, is.1),
      is.3,
    )
    )
    c.put_row.ensures
