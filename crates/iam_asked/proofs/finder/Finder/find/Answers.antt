use Rattle.std.proofs.Common.{subst, sym}
use Rattle.std.specs.Option.{option_copied}
use Rattle.std.proofs.lemmas.Result.{err_from_is_err_and}
use Rattle.iam_world.specs.World.{WorldValue}
use Rattle.iam_asked.specs.Code.Found.{IsPlaceOf, IsSaidFault}
use Rattle.iam_asked.specs.Code.Lent.{said_of}
use Rattle.iam_asked.specs.Texts.{IsActionAt, IsOnlyAt, principal_texts, resource_texts}
use Rattle.iam_asked.proofs.Faults.{action_fault, principal_fault, resource_fault}
use Rattle.iam_asked.proofs.finder.Finder.find.Goals as goal

pub returns-in_err-principal-clause-fault : goal.returns-in_err-principal-clause-fault
returns-in_err-principal-clause-fault c =
    let world = c.self.inside.world.now in
    let said = said_of c.args.said.now in
    let texts = principal_texts world in
    let at : IsPlaceOf texts said.principal (option_copied c.get.result) =
    subst (IsPlaceOf texts said.principal) (sym c.get.ensures.value) (c.self.invariant.principals_are said.principal) in
    let p = err_from_is_err_and c.from_residual.result c.from_residual.ensures.1 in
    rw (p.1, p.2)
    (
    λ other.
    subst (λ w. IsSaidFault w said c.in_err-principal.field-0.0) c.self.view_is
    (principal_fault world said c.in_err-principal.field-0.0 (c.in_err-principal.ensures texts said.principal at))
    )

pub returns-in_err-action-clause-fault : goal.returns-in_err-action-clause-fault
returns-in_err-action-clause-fault c =
    let world = c.self.inside.world.now in
    let said = said_of c.args.said.now in
    let texts = principal_texts world in
    let at : IsPlaceOf texts said.principal (option_copied c.get.result) =
    subst (IsPlaceOf texts said.principal) (sym c.get.ensures.value) (c.self.invariant.principals_are said.principal) in
    let principal = c.in_ok-principal.ensures texts said.principal at in
    let p = err_from_is_err_and c.from_residual-in_err-action.result c.from_residual-in_err-action.ensures.1 in
    rw (p.1, p.2)
    (
    λ other.
    let (is, none) = c.in_err-action.ensures.fault other in
    subst (IsSaidFault c.args.self.now said) (sym is)
    (
    action_fault c.args.self.now said c.in_ok-principal.principal
    (subst (λ (w : WorldValue). IsOnlyAt (principal_texts w) said.principal c.in_ok-principal.principal) c.self.view_is principal) none
    )
    )

pub returns-in_err-resource-clause-fault : goal.returns-in_err-resource-clause-fault
returns-in_err-resource-clause-fault c =
    let world = c.self.inside.world.now in
    let said = said_of c.args.said.now in
    let texts = principal_texts world in
    let others = resource_texts world in
    let at : IsPlaceOf texts said.principal (option_copied c.get.result) =
    subst (IsPlaceOf texts said.principal) (sym c.get.ensures.value) (c.self.invariant.principals_are said.principal) in
    let there : IsPlaceOf others said.resource (option_copied c.get-2.result) =
    subst (IsPlaceOf others said.resource) (sym c.get-2.ensures.value) (c.self.invariant.resources_are said.resource) in
    let principal = c.in_ok-principal.ensures texts said.principal at in
    let action = subst (λ (w : WorldValue). IsActionAt w.actions said.action c.in_ok-action.action) (sym c.self.view_is) c.in_ok-action.ensures.ok in
    let p = err_from_is_err_and c.from_residual-in_err-resource.result c.from_residual-in_err-resource.ensures.1 in
    rw (p.1, p.2)
    (
    λ other.
    subst (λ w. IsSaidFault w said c.in_err-resource.field-0.0) c.self.view_is
    (
    resource_fault world said c.in_ok-principal.principal c.in_ok-action.action c.in_err-resource.field-0.0 principal action
    (c.in_err-resource.ensures others said.resource there)
    )
    )

pub returns-clause-ok : goal.returns-clause-ok
returns-clause-ok c =
    let world = c.self.inside.world.now in
    let said = said_of c.args.said.now in
    let texts = principal_texts world in
    let others = resource_texts world in
    let at : IsPlaceOf texts said.principal (option_copied c.get.result) =
    subst (IsPlaceOf texts said.principal) (sym c.get.ensures.value) (c.self.invariant.principals_are said.principal) in
    let there : IsPlaceOf others said.resource (option_copied c.get-2.result) =
    subst (IsPlaceOf others said.resource) (sym c.get-2.ensures.value) (c.self.invariant.resources_are said.resource) in
    let principal = c.in_ok-principal.ensures texts said.principal at in
    let resource = c.in_ok-resource.ensures others said.resource there in
    record {
      principal = subst (λ (w : WorldValue). IsOnlyAt (principal_texts w) said.principal c.in_ok-principal.principal) c.self.view_is principal;
      action = c.in_ok-action.ensures.ok;
      resource = subst (λ (w : WorldValue). IsOnlyAt (resource_texts w) said.resource c.in_ok-resource.resource) c.self.view_is resource;
    }
