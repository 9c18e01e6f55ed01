use Rattle.std.proofs.Common.{◌↔◌, IsTrue, rules, true, false}
use Rattle.serde_json.specs.View.{view}
use Rattle.iam_condition.specs.Code.Walks.{AnyOf, IsBadMember}
use Rattle.iam_condition.specs.Condition.{members_of}
use Rattle.iam_condition.proofs.ValueLemmas.{bad_from, bad_to}
use Rattle.iam_condition.proofs.values.has_bad_value.Goals as goal

pub returns-then-branch : goal.returns-then-branch
returns-then-branch c =
    let d = view c.args.condition.now in
    let one : IsTrue true ↔ AnyOf IsBadMember (members_of d) = search rules in
    (λ yes. bad_to d (one.0 yes), λ has. one.1 (bad_from d has))

pub returns : goal.returns
returns c =
    let d = view c.args.condition.now in
    let none : IsTrue false ↔ AnyOf IsBadMember (members_of d) = search rules in
    (λ yes. bad_to d (none.0 yes), λ has. none.1 (bad_from d has))
