use Rattle.std.proofs.Common.{◌≡◌}
use Rattle.std.specs.List.{list_any}
use Rattle.serde_json.specs.View.{members_view, view}
use Rattle.iam_condition.specs.Code.Walks.{key_has}
use Rattle.iam_condition.specs.Condition.{member_list, members_of}
use Rattle.iam_condition.proofs.form.keys_have.Given as goal

-- what is left decides
abbrev pub invariant-loop-value : goal.invariant-loop-value
invariant-loop-value l =
    list_any (λ k. key_has l.fault l.base k.1) (members_of (view l.keys)) ≡ list_any (λ k. key_has l.fault l.base k.1) (member_list (members_view l.value-iterator))
