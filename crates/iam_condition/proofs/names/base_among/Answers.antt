use Rattle.std.proofs.Common.{◌∙◌, Bool, option_map, sym, ap}
use Rattle.iam_condition.specs.declared.operator.Base.{Base}
use Rattle.iam_condition.proofs.NameLemmas.{base_found}
use Rattle.iam_condition.proofs.names.base_among.Goals as goal

pub returns : goal.returns
returns c =
    ap (option_map {U = Base × Bool} (λ row. (row.1, row.2))) (sym c.in_ok-base.was)
    ∙ base_found c.args.rows.now c.args.name.now c.found.result c.found.ensures

pub returns-in_err-base : goal.returns-in_err-base
returns-in_err-base c =
    c.from_residual.ensures ∙ ap (option_map {U = Base × Bool} (λ row. (row.1, row.2))) (sym c.in_err-base.was)
    ∙ base_found c.args.rows.now c.args.name.now c.found.result c.found.ensures
