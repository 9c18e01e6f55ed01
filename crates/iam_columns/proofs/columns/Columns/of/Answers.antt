use Rattle.iam_columns.proofs.columns.Columns.of.Goals as goal

pub returns-in-Err : goal.returns-in-Err
returns-in-Err c = λ are. c.none.ensures c.args.world.now c.args.rows.now.rows.items
