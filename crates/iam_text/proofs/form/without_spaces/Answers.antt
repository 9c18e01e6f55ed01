use Rattle.std.proofs.Common.{◌∙◌, ◌++◌, ap, arith, replicate, rules, suc, None, Some}
use Rattle.std.proofs.lemmas.Str.Pattern.{strip_prefix_char}
use Rattle.iam_text.proofs.FormLemmas.{spaces_more}
use Rattle.iam_text.proofs.form.without_spaces.Goals as goal

pub loop-behind-preserved : goal.loop-behind-preserved
loop-behind-preserved c =
    let n = c.loop-behind.invariant.1.0 in
    let space = strip_prefix_char 32 c.loop-behind.rest.now (Some c.in-Some.behind) c.in-Some.ensures.cases (omega arith) in
    (search rules, (suc n, c.loop-behind.invariant.1.1 ∙ ap (λ t. replicate n 32 ++ t) space ∙ spaces_more n c.in-Some.behind.now))

pub returns-clause-none : goal.returns-clause-none
returns-clause-none c = strip_prefix_char 32 c.loop-behind.rest.now None c.in_default.ensures.cases (omega arith)
