use Rattle.std.proofs.Common.{◌≡◌}
use Rattle.std.specs.List.{list_any}
use Rattle.serde_json.specs.View.{members_view, view}
use Rattle.iam_condition.specs.Code.Walks.{member_has}
use Rattle.iam_condition.specs.Condition.{member_list, members_of}
use Rattle.iam_condition.proofs.form.has.Given as goal

-- what is left decides
abbrev pub invariant-loop-name : goal.invariant-loop-name
invariant-loop-name l =
    list_any (member_has l.fault) (members_of (view l.condition)) ≡ list_any (member_has l.fault) (member_list (members_view l.name-iterator))
