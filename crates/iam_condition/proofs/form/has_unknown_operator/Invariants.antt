use Rattle.std.proofs.Common.{◌≡◌, is_none}
use Rattle.std.specs.List.{list_any}
use Rattle.serde_json.specs.View.{members_view, view}
use Rattle.iam_condition.specs.Operator.{operator_of}
use Rattle.iam_condition.specs.Condition.{member_list, members_of}
use Rattle.iam_condition.proofs.form.has_unknown_operator.Given as goal

-- what is left decides
abbrev pub invariant-loop-name : goal.invariant-loop-name
invariant-loop-name l =
    list_any (λ m. is_none (operator_of m.0)) (members_of (view l.condition)) ≡ list_any (λ m. is_none (operator_of m.0)) (member_list (members_view l.name-iterator))
