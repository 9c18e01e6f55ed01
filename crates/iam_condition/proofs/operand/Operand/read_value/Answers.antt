use Rattle.std.proofs.Common.{inl, inr}
use Rattle.iam_condition.proofs.operand.Operand.read_value.Goals as goal

pub returns-in-Number : goal.returns-in-Number
returns-in-Number c = rw c.in-Number.is (c.read_number.ensures c.in-Number.field-0)

pub returns-in-Date : goal.returns-in-Date
returns-in-Date c = rw c.in-Date.is (c.read_date.ensures c.in-Date.field-0)

pub returns-in-Truth : goal.returns-in-Truth
returns-in-Truth c = elim c.in-Truth.is [ inl e ↦ rw e c.read_truth.ensures | inr e ↦ rw e c.read_truth.ensures ]

pub returns-in-Binary : goal.returns-in-Binary
returns-in-Binary c = rw c.in-Binary.is c.read_bytes.ensures

pub returns-in-Address : goal.returns-in-Address
returns-in-Address c = rw c.in-Address.is c.read_range.ensures
