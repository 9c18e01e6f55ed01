use Rattle.std.proofs.Common.{◌≡◌, ◌∙◌, ap, sym, cond, Some, None, rules}
use Rattle.std.proofs.lemmas.Result.{err_from_is_err_and}
use Rattle.serde_json.specs.View.{view}
use Rattle.iam_shape.specs.Code.Walk.{resource_back, resource_front}
use Rattle.iam_shape.specs.Shape.{first_bad, levels_checks, member}
use Rattle.iam_shape.specs.declared.path.Name.TheVariants.{Resources, Control}
use Rattle.iam_shape.specs.declared.path.Path.TheVariants.{Item}
use Rattle.iam_shape.proofs.Walks.{first_bad_among, first_bad_behind}
use Rattle.iam_shape.proofs.resources.walk_resource.Goals as goal

pub returns-in_err-control : goal.returns-in_err-control
returns-in_err-control c =
    let d = view c.args.resource.now in
    let i = c.args.i in
    let front : first_bad (resource_front i d) ≡ None = search rules in
    let p = err_from_is_err_and c.from_residual.result c.from_residual.ensures.1 in
    rw (p.1, p.2)
    (first_bad_among (resource_front i d) (levels_checks Resources i Control (member Control d)) (resource_back i d) front c.in_err-control.field-0.0 c.in_err-control.ensures)

pub returns-then-not-has_only_members : goal.returns-then-not-has_only_members
returns-then-not-has_only_members c =
    let d = view c.args.resource.now in
    let i = c.args.i in
    let front : first_bad (resource_front i d) ≡ None = search rules in
    first_bad_behind (resource_front i d) (levels_checks Resources i Control (member Control d)) (resource_back i d) front c.in_ok-control.ensures.0
    ∙ ap (λ b. cond b None (Some (Item Resources i))) (sym c.has_only_members.ensures ∙ c.if-not-has_only_members.true)

pub returns : goal.returns
returns c =
    let d = view c.args.resource.now in
    let i = c.args.i in
    let front : first_bad (resource_front i d) ≡ None = search rules in (
      first_bad_behind (resource_front i d) (levels_checks Resources i Control (member Control d)) (resource_back i d) front c.in_ok-control.ensures.0
          ∙ ap (λ b. cond b None (Some (Item Resources i))) (sym c.has_only_members.ensures ∙ c.if-not-has_only_members.false),
      search rules,
    )
