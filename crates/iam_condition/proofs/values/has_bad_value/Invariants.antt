use Rattle.std.proofs.Common.{◌↔◌}
use Rattle.serde_json.specs.View.{members_view, view}
use Rattle.iam_condition.specs.Code.Walks.{AnyOf, IsBadMember}
use Rattle.iam_condition.specs.Condition.{member_list, members_of}
use Rattle.iam_condition.proofs.values.has_bad_value.Given as goal

-- what is left decides
abbrev pub invariant-loop-name : goal.invariant-loop-name
invariant-loop-name l = AnyOf IsBadMember (members_of (view l.condition)) ↔ AnyOf IsBadMember (member_list (members_view l.name-iterator))
