use Rattle.iam_columns.proofs.ColumnLemmas.{column_self}
use Rattle.iam_columns.proofs.columns.Firsts.number.Goals as goal

pub returns-in_ok-add-in-None-clause-first : goal.returns-in_ok-add-in-None-clause-first
returns-in_ok-add-in-None-clause-first c = λ are.
    (c.args.r, c.in_ok-add-in-None.ensures.first, column_self c.args.world.now c.args.rows.now c.args.r c.requires)
