use Rattle.std.proofs.Common.{List, subst, sym}
use Rattle.iam_glob.specs.declared.sign.Sign.{Sign}
use Rattle.iam_text.specs.Draft.{IsDraftIn, plain_draft}
use Rattle.iam_text.proofs.template.Template.of.Goals as goal

pub returns-then-is_plain : goal.returns-then-is_plain
returns-then-is_plain c =
    let P : List Sign → Type 0 = λ signs. IsDraftIn c.args.version c.args.wild c.args.text.now (plain_draft signs) in
    subst P (sym c.in_ok-glob.ensures) (c.is_plain.ensures.plain c.if-is_plain.true c.args.wild)
