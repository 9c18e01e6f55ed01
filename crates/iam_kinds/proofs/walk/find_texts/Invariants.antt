use Rattle.std.proofs.Common.{ℕ, ◌<◌, ◌≤◌, [], length}
use Rattle.std.proofs.Common.{◌≡◌, ◌++◌, ◌∷◌, Some}
use Rattle.std.specs.List.{slice_get}
use Rattle.iam_kinds.specs.declared.asked.Node.{Node}
use Rattle.iam_kinds.specs.Walk.{HasSeen, IsBelow, IsExpandedAt, IsMetFirst, IsWalk}
use Rattle.iam_kinds.proofs.walk.find_texts.Given as goal

abbrev pub invariant-loop-head : goal.invariant-loop-head
invariant-loop-head l = record {
  walk : IsWalk l.asked l.walk;
  seen : HasSeen l.walk;
  root : IsMetFirst l.asked l.walk [];
  below : l.head ≤ length l.walk.nodes.items;
  expanded : (i : ℕ) → i < l.head → IsExpandedAt l.asked l.walk i;
  behind : (node : Node) → slice_get l.walk.nodes.items l.head ≡ Some node → (c : ℕ) → IsBelow l.walk (node.text.items ++ (c ∷ []));
}
