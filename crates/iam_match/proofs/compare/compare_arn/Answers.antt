use Rattle.std.proofs.Common.{List, None, Some, sym, ap, ◌∙◌, subst}
use Rattle.iam_context.specs.Resolve.{resolved}
use Rattle.iam_text.specs.declared.draft.Piece.{Piece}
use Rattle.iam_condition.specs.declared.operand.Operand.{Operand}
use Rattle.iam_match.specs.Code.Compared.{ArnFits, IsTextAnswer, TellsOfPattern}
use Rattle.iam_match.proofs.StatementLemmas.{plain_resolved}
use Rattle.iam_match.proofs.compare.compare_arn.Goals as goal

pub returns-in-Fixed : goal.returns-in-Fixed
returns-in-Fixed c =
    let glob = c.in-Fixed.glob.now in
    let P : Operand → Type 0 = λ v. IsTextAnswer c.args.context.now v (ArnFits c.args.arn.now) (Some c.arn_fits.result) in
    subst P (sym c.in-Text.is) (glob, ap (resolved c.args.context.now) c.in-Fixed.ensures ∙ plain_resolved c.args.context.now glob, c.arn_fits.ensures)

pub returns-in-Some : goal.returns-in-Some
returns-in-Some c =
    let Told : List Piece → Type 0 = λ pieces. TellsOfPattern (resolved c.args.context.now pieces) (ArnFits c.args.arn.now) (Some c.arn_fits-in-Some.result) in
    let told : Told c.in-Open.draft.now = (c.in-Some.glob, sym c.in_ok-glob-in-Open.ensures ∙ c.in-Some.is, c.arn_fits-in-Some.ensures) in
    let P : Operand → Type 0 = λ v. IsTextAnswer c.args.context.now v (ArnFits c.args.arn.now) (Some c.arn_fits-in-Some.result) in
    subst P (sym c.in-Text.is) (subst Told (sym c.in-Open.ensures) told)

pub returns-in-None : goal.returns-in-None
returns-in-None c =
    let P : Operand → Type 0 = λ v. IsTextAnswer c.args.context.now v (ArnFits c.args.arn.now) None in
    subst P (sym c.in-Text.is) (ap (resolved c.args.context.now) c.in-Open.ensures ∙ (sym c.in_ok-glob-in-Open.ensures ∙ c.in-None.is))
