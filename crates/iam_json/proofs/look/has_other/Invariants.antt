use Rattle.std.proofs.Common.{◌≡◌, map}
use Rattle.serde_json.specs.View.{members_view}
use Rattle.iam_json.specs.Look.{has_other, is_one_of}
use Rattle.iam_json.proofs.look.has_other.Given as goal

abbrev pub invariant-loop-name : goal.invariant-loop-name
invariant-loop-name l =
    has_other (is_one_of (map (λ n. n.now) l.names)) (members_view l.members.entries) ≡ has_other (is_one_of (map (λ n. n.now) l.names)) (members_view l.name-iterator)
