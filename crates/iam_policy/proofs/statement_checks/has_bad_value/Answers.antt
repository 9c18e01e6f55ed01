use Rattle.std.proofs.Common.{◌∙◌, ap, sym}
use Rattle.iam_element.specs.Code.Members.{data_of}
use Rattle.iam_policy.proofs.statement_checks.has_bad_value.Goals as goal

pub returns-in-Some : goal.returns-in-Some
returns-in-Some c =
    let found = ap data_of (sym c.in-Some.is) ∙ c.statement.invariant.condition_is in
    rw (← c.statement.view_is) (rw (← found) c.has_bad_value.ensures)
