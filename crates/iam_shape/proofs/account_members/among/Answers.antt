use Rattle.std.proofs.Common.{◌≡◌, subst, rules}
use Rattle.serde_json.specs.Data.{member}
use Rattle.serde_json.specs.View.{members_view, view}
use Rattle.iam_shape.specs.Code.Members.{AreFound}
use Rattle.iam_shape.proofs.account_members.among.Goals as goal

pub loop-name-preserved : goal.loop-name-preserved
loop-name-preserved c =
    let all = members_view c.args.members.now.entries in
    let left = members_view c.next.new.self in
    let here : members_view c.loop-name.name-iterator ≡ member c.as_str.result.now (view c.in-Some.value.now) left = search rules in
    c.keep-found.ensures all left (subst (λ ms. AreFound all ms c.loop-name.found) here c.loop-name.invariant)
