use Rattle.std.proofs.Common.{◌↔◌, All, IfOk, IsTrue, List, subst}
use Rattle.std.proofs.lemmas.Result.{IfOk-weaker}
use Rattle.iam_condition.specs.Entry.{EntryValue}
use Rattle.iam_match.specs.Entry.{EntryHolds}
use Rattle.iam_match.proofs.statement.all_match.Goals as goal

pub returns : goal.returns
returns c =
    let P : List EntryValue → Type 0 = λ es. IfOk c.conditions_hold.result (λ held. IsTrue held ↔ All (EntryHolds c.args.access.context.now) es) in
    IfOk-weaker c.conditions_hold.result _ _
    (λ held agrees. (
      λ t. record {
        principal = c.principal_matches.ensures.0 c.if-not-principal_matches.false;
        resource = c.in_ok-resource_matches_with.ensures.0 c.if-not-branch.false;
        conditions = agrees.0 t;
      },
      λ rest. agrees.1 rest.conditions,
    ))
    (subst P c.conditions.ensures c.conditions_hold.ensures)
