use Rattle.std.proofs.Common.{◌∙◌, sym}
use Rattle.iam_open_changes.proofs.implied.are_within_by.Goals as goal

pub returns-then-is_null : goal.returns-then-is_null
returns-then-is_null c = rw (sym c.is_null.ensures ∙ c.if-is_null.true) c.are_within.ensures

pub returns-then-operator : goal.returns-then-operator
returns-then-operator c = rw (sym c.is_null.ensures ∙ c.if-is_null.false, c.if-operator.true) c.are_within-then-operator.ensures

pub returns-else-operator : goal.returns-else-operator
returns-else-operator c = rw (sym c.is_null.ensures ∙ c.if-is_null.false, c.if-operator.false) c.are_within-else-operator.ensures
