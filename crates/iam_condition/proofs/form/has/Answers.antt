use Rattle.std.proofs.Common.{◌≡◌, ◌∙◌, rules, true, false}
use Rattle.std.specs.List.{list_any}
use Rattle.serde_json.specs.View.{view}
use Rattle.iam_condition.specs.Code.Walks.{member_has}
use Rattle.iam_condition.specs.Condition.{members_of}
use Rattle.iam_condition.proofs.WalkLemmas.{under_all}
use Rattle.iam_condition.proofs.form.has.Goals as goal

pub returns-then-member_has : goal.returns-then-member_has
returns-then-member_has c =
    let one : true ≡ list_any (member_has c.args.fault) (members_of (view c.args.condition.now)) = search rules in
    one ∙ under_all c.args.fault (view c.args.condition.now)

pub returns : goal.returns
returns c =
    let none : false ≡ list_any (member_has c.args.fault) (members_of (view c.args.condition.now)) = search rules in
    none ∙ under_all c.args.fault (view c.args.condition.now)
