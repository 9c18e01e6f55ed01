use Rattle.std.proofs.Common.{◌↔◌, drop, map}
use Rattle.serde_json.specs.View.{view}
use Rattle.iam_condition.specs.Code.Walks.{AnyOf}
use Rattle.iam_condition.specs.Condition.{IsBadValue}
use Rattle.iam_condition.proofs.values.is_some_value_bad.Given as goal

-- what is left decides
abbrev pub invariant-loop-value : goal.invariant-loop-value
invariant-loop-value l = AnyOf (IsBadValue l.base) (map view l.values) ↔ AnyOf (IsBadValue l.base) (map view (drop l.value-index l.values))
