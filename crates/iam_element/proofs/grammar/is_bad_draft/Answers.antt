use Rattle.std.proofs.Common.{◌||◌, ◌∙◌, ap, sym, not, nat_lt}
use Rattle.iam_text.specs.Arn.{colons}
use Rattle.iam_element.proofs.GrammarLemmas.{cut_bad, few_colons, none_bad}
use Rattle.iam_element.proofs.grammar.is_bad_draft.Goals as goal

pub returns-else-not-has_forms_behind : goal.returns-else-not-has_forms_behind
returns-else-not-has_forms_behind c =
    let front = c.in-Some.front.now in
    let passes = sym c.has_forms_behind.ensures ∙ c.if-not-has_forms_behind.false in
    ap not c.has_six_parts.ensures ∙ few_colons (colons front)
    ∙ sym (cut_bad c.args.text.now front c.in-Some.inside.now c.in-Some.ensures.cut c.in-Some.ensures.grammar ∙ ap (λ b. not b || nat_lt (colons front) 5) passes)

pub returns-in-None : goal.returns-in-None
returns-in-None c = sym (none_bad c.args.text.now c.in-None.ensures.grammar c.in-None.ensures.cut)
