use Rattle.std.proofs.Common.{◌∙◌, ◌==◌, ap, sym}
use Rattle.std.specs.List.{list_any}
use Rattle.iam_element.proofs.GrammarLemmas.{dollar_bad}
use Rattle.iam_element.proofs.grammar.is_bad_variable.Goals as goal

pub returns-else-has_dollar : goal.returns-else-has_dollar
returns-else-has_dollar c =
    let none = ap (list_any (λ b. b == 36)) (sym c.as_bytes.ensures.value) ∙ sym c.has_dollar.ensures ∙ c.if-has_dollar.false in
    c.if-has_dollar.false ∙ rw c.in-V2012.is (sym (dollar_bad c.args.text.now none))
