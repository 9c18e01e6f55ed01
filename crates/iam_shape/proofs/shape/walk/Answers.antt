use Rattle.std.proofs.Common.{◌≡◌, ◌∙◌, Some}
use Rattle.std.proofs.lemmas.Result.{err_from_is_err_and}
use Rattle.serde_json.specs.Find.{as_str}
use Rattle.serde_json.specs.View.{view}
use Rattle.iam_shape.specs.Lent.{principal_of, resource_of}
use Rattle.iam_shape.specs.Shape.{shape_checks}
use Rattle.iam_shape.specs.View.{IsPrincipalView, IsResourceView}
use Rattle.iam_shape.specs.declared.path.Name.TheVariants.{Principals, Actions, Resources}
use Rattle.iam_shape.proofs.Stages.{accounts, principals, actions, resources, in_head, in_accounts, in_principals, in_actions, in_resources, past_resources, list_of_map}
use Rattle.iam_shape.proofs.Walks.{shape_fault_from}
use Rattle.iam_shape.proofs.shape.walk.Goals as goal

pub returns-in_err-moment-clause-path : goal.returns-in_err-moment-clause-path
returns-in_err-moment-clause-path c =
    let p = err_from_is_err_and c.from_residual.result c.from_residual.ensures.1 in
    rw (p.1, p.2) (λ other. in_head (view c.args.world.now) c.in_err-moment.field-0.0 c.in_err-moment.ensures)

pub returns-in_err-accounts-clause-path : goal.returns-in_err-accounts-clause-path
returns-in_err-accounts-clause-path c =
    let d = view c.args.world.now in
    let p = err_from_is_err_and c.from_residual-in_err-accounts.result c.from_residual-in_err-accounts.ensures.1 in
    rw (p.1, p.2)
    (
    λ other.
    shape_fault_from (accounts d) (shape_checks d) (in_accounts d c.in_ok-moment.ensures.0) c.in_err-accounts.field-0.0
    (c.in_err-accounts.ensures.path other)
    )

pub returns-in_err-principals-clause-path : goal.returns-in_err-principals-clause-path
returns-in_err-principals-clause-path c =
    let d = view c.args.world.now in
    let p = err_from_is_err_and c.from_residual-in_err-principals.result c.from_residual-in_err-principals.ensures.1 in
    rw (p.1, p.2)
    (
    λ other.
    shape_fault_from (principals d) (shape_checks d) (in_principals d c.in_ok-moment.ensures.0 c.in_ok-accounts.ensures.ok.0)
    c.in_err-principals.field-0.0 (c.in_err-principals.ensures.path other)
    )

pub returns-in_err-actions-clause-path : goal.returns-in_err-actions-clause-path
returns-in_err-actions-clause-path c =
    let d = view c.args.world.now in
    let p = err_from_is_err_and c.from_residual-in_err-actions.result c.from_residual-in_err-actions.ensures.1 in
    rw (p.1, p.2)
    (
    λ other.
    shape_fault_from (actions d) (shape_checks d)
    (in_actions d c.in_ok-moment.ensures.0 c.in_ok-accounts.ensures.ok.0 c.in_ok-principals.ensures.ok.0) c.in_err-actions.field-0.0
    (c.in_err-actions.ensures.path other)
    )

pub returns-in_err-resources-clause-path : goal.returns-in_err-resources-clause-path
returns-in_err-resources-clause-path c =
    let d = view c.args.world.now in
    let p = err_from_is_err_and c.from_residual-in_err-resources.result c.from_residual-in_err-resources.ensures.1 in
    rw (p.1, p.2)
    (
    λ other.
    shape_fault_from (resources d) (shape_checks d)
    (in_resources d c.in_ok-moment.ensures.0 c.in_ok-accounts.ensures.ok.0 c.in_ok-principals.ensures.ok.0 c.in_ok-actions.ensures.ok.0)
    c.in_err-resources.field-0.0 (c.in_err-resources.ensures.path other)
    )

pub returns-in_err-context-clause-path : goal.returns-in_err-context-clause-path
returns-in_err-context-clause-path c =
    let p = err_from_is_err_and c.from_residual-in_err-context.result c.from_residual-in_err-context.ensures.1 in
    rw (p.1, p.2)
    (
    λ other.
    past_resources (view c.args.world.now) c.in_ok-moment.ensures.0 c.in_ok-accounts.ensures.ok.0 c.in_ok-principals.ensures.ok.0
    c.in_ok-actions.ensures.ok.0 c.in_ok-resources.ensures.ok.0
    ∙ c.in_err-context.ensures
    )

pub returns-clause-ok : goal.returns-clause-ok
returns-clause-ok c =
    let d = view c.args.world.now in (
      past_resources d c.in_ok-moment.ensures.0 c.in_ok-accounts.ensures.ok.0 c.in_ok-principals.ensures.ok.0 c.in_ok-actions.ensures.ok.0
          c.in_ok-resources.ensures.ok.0
          ∙ c.in_ok-context.ensures.0,
      record {
        moment = c.in_ok-moment.ensures.1.0;
        accounts = c.in_ok-accounts.ensures.ok.1;
        principals = list_of_map IsPrincipalView principal_of Principals d c.in_ok-principals.principals.items c.in_ok-principals.ensures.ok.1;
        actions = list_of_map (λ action text. as_str action ≡ Some text) (λ text. text.now) Actions d c.in_ok-actions.actions.items c.in_ok-actions.ensures.ok.1;
        resources = list_of_map IsResourceView resource_of Resources d c.in_ok-resources.resources.items c.in_ok-resources.ensures.ok.1;
        context = c.in_ok-context.ensures.1;
      },
    )
