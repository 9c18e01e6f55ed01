use Rattle.std.proofs.Common.{◌↔◌}
use Rattle.serde_json.specs.View.{members_view, view}
use Rattle.iam_condition.specs.Code.Walks.{AnyOf, IsBadUnder}
use Rattle.iam_condition.specs.Condition.{member_list, members_of}
use Rattle.iam_condition.proofs.values.are_keys_bad.Given as goal

-- what is left decides
abbrev pub invariant-loop-value : goal.invariant-loop-value
invariant-loop-value l = AnyOf (IsBadUnder l.base) (members_of (view l.keys)) ↔ AnyOf (IsBadUnder l.base) (member_list (members_view l.value-iterator))
