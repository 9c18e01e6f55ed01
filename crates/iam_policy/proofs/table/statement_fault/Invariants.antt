use Rattle.std.proofs.Common.{◌≡◌, ℕ, drop}
use Rattle.std.specs.List.{find}
use Rattle.serde_json.specs.Data.{Data}
use Rattle.serde_json.specs.View.{view}
use Rattle.iam_policy.specs.Code.First.{IsPlaceOf, fault_of, line_has}
use Rattle.iam_policy.specs.Table.{table}
use Rattle.iam_policy.proofs.table.statement_fault.Given as goal

-- what is left of the table decides
abbrev pub invariant-loop-fault : goal.invariant-loop-fault
invariant-loop-fault l =
    (d : Data) (i : ℕ) → IsPlaceOf d i (view l.statement) l.place
    → fault_of l.place.kind d i (view l.statement) l.bad_value ≡ find (line_has l.place.kind d i (view l.statement) l.bad_value) (drop l.fault-index table)
