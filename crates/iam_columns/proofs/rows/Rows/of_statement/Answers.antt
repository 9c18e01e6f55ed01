use Rattle.std.proofs.Common.{Option, IfSome, subst}
use Rattle.iam_element.specs.Reading.{ResourceElement}
use Rattle.iam_columns.specs.Rows.{HasRow}
use Rattle.iam_columns.proofs.rows.Rows.of_statement.Goals as goal

pub returns-in-Some-clause-row : goal.returns-in-Some-clause-row
returns-in-Some-clause-row c =
    let R : Option ResourceElement → Type 0 = λ e. IfSome c.number.result (λ n. HasRow c.number.new.self.rows.items n e) in
    subst R (rw c.in-Some.is at c.resource.ensures) c.number.ensures.row
