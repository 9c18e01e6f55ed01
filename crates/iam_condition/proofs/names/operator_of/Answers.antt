use Rattle.std.proofs.Common.{◌∙◌, sym, ap, List, ℕ, Option}
use Rattle.iam_condition.specs.Operator.{before_if_exists, operator_of, single_operator}
use Rattle.iam_condition.specs.declared.operator.Quantifier.{Quantifier}
use Rattle.iam_condition.proofs.names.operator_of.Goals as goal

pub returns : goal.returns
unfolding operator_of
returns c =
    let differs = sym c.eq.ensures ∙ c.if-eq.false in
    rw differs (c.single_operator.ensures ∙ ap (λ (p : Option Quantifier × List ℕ). single_operator p.0 (before_if_exists p.1)) c.behind_quantifier-quantifier.ensures)
