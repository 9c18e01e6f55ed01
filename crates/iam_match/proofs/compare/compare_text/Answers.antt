use Rattle.std.proofs.Common.{Some, sym, ap, ◌∙◌, subst}
use Rattle.iam_context.specs.Resolve.{resolved}
use Rattle.iam_condition.specs.declared.operand.Operand.{Operand}
use Rattle.iam_match.specs.Code.Compared.{IsTextAnswer}
use Rattle.iam_match.specs.Entry.{PatternMatches}
use Rattle.iam_match.proofs.StatementLemmas.{plain_resolved}
use Rattle.iam_match.proofs.compare.compare_text.Goals as goal

pub returns-in-Fixed : goal.returns-in-Fixed
returns-in-Fixed c =
    let glob = c.in-Fixed.glob.now in
    let P : Operand → Type 0 = λ v. IsTextAnswer c.args.context.now v (λ signs. PatternMatches c.args.test signs c.args.text.now) (Some c.text_matches.result) in
    subst P (sym c.in-Text.is) (glob, ap (resolved c.args.context.now) c.in-Fixed.ensures ∙ plain_resolved c.args.context.now glob, c.text_matches.ensures)
