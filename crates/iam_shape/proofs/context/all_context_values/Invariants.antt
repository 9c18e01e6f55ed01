use Rattle.std.proofs.Common.{◌≡◌}
use Rattle.serde_json.specs.View.{members_view}
use Rattle.iam_json.specs.Scalar.{all_members}
use Rattle.iam_shape.specs.Code.Walk.{is_context_value}
use Rattle.iam_shape.proofs.context.all_context_values.Given as goal

-- what is left decides
abbrev pub invariant-loop-value : goal.invariant-loop-value
invariant-loop-value l =
    all_members is_context_value (members_view l.members.entries) ≡ all_members is_context_value (members_view l.value-iterator)
