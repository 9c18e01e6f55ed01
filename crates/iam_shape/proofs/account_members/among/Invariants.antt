use Rattle.serde_json.specs.View.{members_view}
use Rattle.iam_shape.specs.Code.Members.{AreFound}
use Rattle.iam_shape.proofs.account_members.among.Given as goal

-- what was found before the members that are left
abbrev pub invariant-loop-name : goal.invariant-loop-name
invariant-loop-name l = AreFound (members_view l.members.entries) (members_view l.name-iterator) l.found
