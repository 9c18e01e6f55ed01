use Rattle.std.proofs.Common.{IfSome, Some, subst}
use Rattle.iam_element.specs.Reading.{ResourceElement}
use Rattle.iam_columns.specs.Rows.{HasRow}
use Rattle.iam_columns.proofs.rows.Rows.number.Goals as goal

pub returns-in-Ok-Some-clause-row : goal.returns-in-Ok-Some-clause-row
returns-in-Ok-Some-clause-row c =
    let R : ResourceElement → Type 0 = λ e. IfSome c.add.result (λ n. HasRow c.add.new.self.rows.items n (Some e)) in
    subst R (rw c.in-Ok-Some.field-0-is at c.in-Ok-Some.ensures).1 c.add.ensures.row
