use Rattle.std.proofs.Common.{◌∙◌, sym, ap}
use Rattle.iam_condition.specs.Operator.{single_operator}
use Rattle.iam_condition.proofs.NameLemmas.{with_base}
use Rattle.iam_condition.proofs.names.single_operator.Goals as goal

pub returns : goal.returns
returns c =
    let parts = c.before_if_exists-if_exists.result in
    with_base c.args.quantifier (parts.0.now, parts.1) _ (sym c.in_ok-base.was ∙ c.base_among.ensures)
    ∙ ap (single_operator c.args.quantifier) c.before_if_exists-if_exists.ensures

pub returns-in_err-base : goal.returns-in_err-base
returns-in_err-base c =
    let parts = c.before_if_exists-if_exists.result in
    c.from_residual.ensures
    ∙ with_base c.args.quantifier (parts.0.now, parts.1) _ (sym c.in_err-base.was ∙ c.base_among.ensures)
    ∙ ap (single_operator c.args.quantifier) c.before_if_exists-if_exists.ensures
