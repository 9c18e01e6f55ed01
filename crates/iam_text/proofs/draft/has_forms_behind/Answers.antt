use Rattle.std.proofs.Common.{◌∙◌, rules, sym}
use Rattle.iam_text.proofs.VariableLemmas.{no_form, run_form}
use Rattle.iam_text.proofs.draft.has_forms_behind.Goals as goal

pub loop-behind-preserved : goal.loop-behind-preserved
loop-behind-preserved c = (
  search rules,
  c.loop-behind.invariant.1 ∙ run_form _ c.loop-behind.inside.now c.in-Some.behind.now c.in-Some.ensures ∙ c.in-Some-cut_form.ensures.grammar,
)

pub returns-in-None : goal.returns-in-None
returns-in-None c =
    sym (c.loop-behind.invariant.1 ∙ run_form _ c.loop-behind.inside.now c.in-Some.behind.now c.in-Some.ensures ∙ c.in-None.ensures.grammar)

pub returns : goal.returns
returns c = sym (c.loop-behind.invariant.1 ∙ no_form c.loop-behind.inside.now c.in_default.ensures)
