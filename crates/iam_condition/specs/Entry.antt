-- An entry of a condition as it is kept. LOGIC 7.1.
use Rattle.std.specs.Prelude.{ℕ, List}
use Rattle.iam_condition.specs.declared.operator.Operator.{Operator}
use Rattle.iam_condition.specs.declared.operand.Operand.{Operand}

-- an operator, a key under it, and the values of that key
pub record EntryValue : Type 0 where
  pub operator : Operator
  pub key : List ℕ
  pub values : List Operand
