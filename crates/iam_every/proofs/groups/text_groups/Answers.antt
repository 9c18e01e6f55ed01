use Rattle.std.proofs.Common.{map, subst, sym}
use Rattle.std.proofs.lemmas.Result.{IfOk-weaker}
use Rattle.iam_match.specs.Request.{access_of}
use Rattle.iam_decision.specs.Applicable.{value_of}
use Rattle.iam_decision.specs.Code.Scan.{placed_value}
use Rattle.iam_decision.specs.Matched.{Selects, placed}
use Rattle.iam_every.specs.Alike.{Concerns}
use Rattle.iam_every.specs.Groups.{AreGroups, groups_of}
use Rattle.iam_every.specs.OwnGroups.{AreOwnGroups}
use Rattle.iam_every.proofs.OwnLemmas.{own_groups}
use Rattle.iam_every.proofs.groups.text_groups.Goals as goal

pub returns-clause-own : goal.returns-clause-own
returns-clause-own c =
    let a = value_of c.args.applicable.now in
    let access = access_of c.args.access in
    let action = c.args.action.now in
    let concerned = subst (λ items. Selects (Concerns access action) (placed a) (map placed_value items)) (sym c.as_slice.ensures.value) c.in_ok-statements.ensures in
    IfOk-weaker c.groups_among.result _ (λ groups. AreOwnGroups a access action (groups_of groups.items)) (λ groups own. own a action concerned) c.groups_among.ensures

pub returns-clause-groups : goal.returns-clause-groups
returns-clause-groups c =
    let a = value_of c.args.applicable.now in
    let access = access_of c.args.access in
    let action = c.args.action.now in
    IfOk-weaker c.groups_among.result _ (λ groups. AreGroups a access action (groups_of groups.items))
    (λ groups own. own_groups a access action (groups_of groups.items) own) (returns-clause-own c)
