use Rattle.std.proofs.Common.{sym, subst}
use Rattle.iam_row.specs.Report.{IsCellTexts}
use Rattle.iam_changes.specs.Code.Found.{FinderValue}
use Rattle.iam_changes.specs.Requests.{Has}
use Rattle.iam_changes.specs.Twice.{axis_texts}
use Rattle.iam_changes.specs.declared.twice.Axis.TheVariants.{Principals, Actions, Resources}
use Rattle.iam_changes.proofs.Places.{has_found, number_there, principal_there, resource_there, texts_found}
use Rattle.iam_changes.proofs.finder.Finder.finds_all.Goals as goal

pub returns : goal.returns
returns c on cell texts of =
    let own = c.self.inside in
    let world = own.world.now in
    let other = own.other.now in
    let C : FinderValue → Type 0 = λ v. IsCellTexts v.world cell texts in
    let H : FinderValue → Type 0 = λ v. Has v.other texts in
    let (p, a, r, is, has) = subst C (sym c.self.view_is) of in
    let (resources, principals, actions) = c.self.invariant.all_are on in
    let principal = number_there (axis_texts Principals other) (axis_texts Principals world) own.principals.items p texts.principal c.self.invariant.of_principals
    (principal_there world p a r texts has) (principals p) in
    let action = number_there (axis_texts Actions other) (axis_texts Actions world) own.actions.items a texts.action c.self.invariant.of_actions has.action (actions a) in
    let resource = number_there (axis_texts Resources other) (axis_texts Resources world) own.resources.items r texts.resource c.self.invariant.of_resources
    (resource_there world p a r texts has) (c.self.invariant.resources_are resources r) in
    subst H c.self.view_is
    (has_found other principal.0 action.0 resource.0 texts (texts_found other principal.0 action.0 resource.0 texts principal.1 action.1 resource.1))
