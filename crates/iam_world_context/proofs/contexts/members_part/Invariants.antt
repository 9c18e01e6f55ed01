use Rattle.std.proofs.Common.{◌≡◌, ◌++◌}
use Rattle.serde_json.specs.View.{members_view}
use Rattle.iam_world_context.specs.Part.{members_part}
use Rattle.iam_world_context.proofs.contexts.members_part.Given as goal

-- the keys so far, and those that are left
abbrev pub invariant-loop-key : goal.invariant-loop-key
invariant-loop-key l = members_part (members_view l.members.entries) ≡ l.part.items ++ members_part (members_view l.key-iterator)
