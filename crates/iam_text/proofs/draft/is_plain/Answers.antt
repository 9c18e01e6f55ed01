use Rattle.std.proofs.Common.{◌≡◌, ◌==◌, ◌∙◌, ap, false, MatchOption, None, Option, Some, is_some, not, sym}
use Rattle.std.specs.List.{list_any}
use Rattle.iam_text.proofs.DraftLemmas.{plain_drafted}
use Rattle.iam_text.proofs.VariableLemmas.{no_dollar}
use Rattle.iam_text.proofs.draft.is_plain.Goals as goal

pub returns-then-not-has_dollar-clause-plain : goal.returns-then-not-has_dollar-clause-plain
returns-then-not-has_dollar-clause-plain c = λ holds wild.
    let off = no_dollar c.args.text.now (ap (list_any (λ b. b == 36)) (sym c.as_bytes.ensures.value) ∙ sym c.has_dollar.ensures ∙ c.if-not-has_dollar.true) in
    rw c.in-V2012.is (plain_drafted wild c.args.text.now c.utf8.text off)

not_cut : {X : Type 0} (r : Option X) (P : Type 0) (Q : X → Type 0) → MatchOption r P Q → is_some r ≡ false → P
not_cut None P Q found holds = found
not_cut (Some x) P Q found holds = let no : ⊥ = cc in absurd no

pub returns-else-not-has_dollar-clause-plain : goal.returns-else-not-has_dollar-clause-plain
returns-else-not-has_dollar-clause-plain c = λ holds wild.
    let off = not_cut c.cut_form.result _ _ c.cut_form.ensures.cut (c.is_none.ensures ∙ ap not holds) in
    rw c.in-V2012.is (plain_drafted wild c.args.text.now c.utf8.text off)
