use Rattle.std.proofs.Common.{◌++◌, List, map}
use Rattle.std.specs.List.{AllZip}
use Rattle.std.proofs.lemmas.Result.{err_from_is_err_and}
use Rattle.iam_policy.specs.declared.fault.Kind.TheVariants as kind
use Rattle.iam_policy.specs.Reading.{Reads}
use Rattle.iam_shape.specs.Lent.{account_of, principal_of, resource_of}
use Rattle.iam_shape.specs.LentWorld.{world_of}
use Rattle.iam_shape.specs.Shape.{each}
use Rattle.iam_shape.specs.View.{WorldViewValue}
use Rattle.iam_world.specs.Reads.{ReadsOptional}
use Rattle.iam_world.specs.WorldFault.{Document, boundary_documents, control_documents, identity_documents, org_documents, resource_documents, session_documents}
use Rattle.iam_world.proofs.DocumentLemmas.{cleared_append, cleared_lent, refused_lent, refused_here, refused_later}
use Rattle.iam_world.proofs.Walks.{zip_map}
use Rattle.iam_world.proofs.documents.read_documents.Goals as goal

-- the documents of each layer, and those behind it
abbrev orgs : WorldViewValue → List Document
orgs world = each org_documents 0 world.accounts

abbrev controls : WorldViewValue → List Document
controls world = each control_documents 0 world.resources

abbrev attached : WorldViewValue → List Document
attached world = each resource_documents 0 world.resources

abbrev own : WorldViewValue → List Document
own world = each identity_documents 0 world.principals

abbrev boundaries : WorldViewValue → List Document
boundaries world = each boundary_documents 0 world.principals

abbrev sessions : WorldViewValue → List Document
sessions world = each session_documents 0 world.principals

abbrev behind_own : WorldViewValue → List Document
behind_own world = boundaries world ++ sessions world

abbrev behind_attached : WorldViewValue → List Document
behind_attached world = own world ++ behind_own world

abbrev behind_controls : WorldViewValue → List Document
behind_controls world = attached world ++ behind_attached world

abbrev behind_orgs : WorldViewValue → List Document
behind_orgs world = controls world ++ behind_controls world

pub returns-in_err-read_each-clause-fault : goal.returns-in_err-read_each-clause-fault
returns-in_err-read_each-clause-fault c =
    let world = world_of c.args.world.now in
    let p = err_from_is_err_and c.from_residual.result c.from_residual.ensures.1 in
    let fault = c.in_err-read_each.field-0.0 in
    rw (p.1, p.2)
    (
    λ other.
    refused_here (orgs world) (behind_orgs world) fault
    (refused_lent org_documents account_of c.as_slice-accounts.result.now c.args.world.now.accounts.views.items fault c.as_slice-accounts.ensures.value
    (c.in_err-read_each.ensures.fault other))
    )

pub returns-in_err-read_each-2-clause-fault : goal.returns-in_err-read_each-2-clause-fault
returns-in_err-read_each-2-clause-fault c =
    let world = world_of c.args.world.now in
    let one = cleared_lent org_documents account_of c.as_slice-accounts.result.now c.args.world.now.accounts.views.items _ _ c.as_slice-accounts.ensures.value c.in_ok-read_each.ensures.cleared in
    let p = err_from_is_err_and c.from_residual-in_err-read_each-2.result c.from_residual-in_err-read_each-2.ensures.1 in
    let fault = c.in_err-read_each-2.field-0.0 in
    rw (p.1, p.2)
    (
    λ other.
    refused_later (orgs world) (behind_orgs world) fault one.accepted
    (refused_here (controls world) (behind_controls world) fault
    (refused_lent control_documents resource_of c.as_slice-resources.result.now c.args.world.now.resources.items fault c.as_slice-resources.ensures.value
    (c.in_err-read_each-2.ensures.fault other)))
    )

pub returns-in_err-read_each-3-clause-fault : goal.returns-in_err-read_each-3-clause-fault
returns-in_err-read_each-3-clause-fault c =
    let world = world_of c.args.world.now in
    let one = cleared_lent org_documents account_of c.as_slice-accounts.result.now c.args.world.now.accounts.views.items _ _ c.as_slice-accounts.ensures.value c.in_ok-read_each.ensures.cleared in
    let two = cleared_lent control_documents resource_of c.as_slice-resources.result.now c.args.world.now.resources.items _ _ c.as_slice-resources.ensures.value c.in_ok-read_each-2.ensures.cleared in
    let p = err_from_is_err_and c.from_residual-in_err-read_each-3.result c.from_residual-in_err-read_each-3.ensures.1 in
    let fault = c.in_err-read_each-3.field-0.0 in
    rw (p.1, p.2)
    (
    λ other.
    refused_later (orgs world) (behind_orgs world) fault one.accepted
    (refused_later (controls world) (behind_controls world) fault two.accepted
    (refused_here (attached world) (behind_attached world) fault
    (refused_lent resource_documents resource_of c.as_slice-resources.result.now c.args.world.now.resources.items fault c.as_slice-resources.ensures.value
    (c.in_err-read_each-3.ensures.fault other))))
    )

pub returns-in_err-read_each-4-clause-fault : goal.returns-in_err-read_each-4-clause-fault
returns-in_err-read_each-4-clause-fault c =
    let world = world_of c.args.world.now in
    let one = cleared_lent org_documents account_of c.as_slice-accounts.result.now c.args.world.now.accounts.views.items _ _ c.as_slice-accounts.ensures.value c.in_ok-read_each.ensures.cleared in
    let two = cleared_lent control_documents resource_of c.as_slice-resources.result.now c.args.world.now.resources.items _ _ c.as_slice-resources.ensures.value c.in_ok-read_each-2.ensures.cleared in
    let three = cleared_lent resource_documents resource_of c.as_slice-resources.result.now c.args.world.now.resources.items _ _ c.as_slice-resources.ensures.value c.in_ok-read_each-3.ensures.cleared in
    let p = err_from_is_err_and c.from_residual-in_err-read_each-4.result c.from_residual-in_err-read_each-4.ensures.1 in
    let fault = c.in_err-read_each-4.field-0.0 in
    rw (p.1, p.2)
    (
    λ other.
    refused_later (orgs world) (behind_orgs world) fault one.accepted
    (refused_later (controls world) (behind_controls world) fault two.accepted
    (refused_later (attached world) (behind_attached world) fault three.accepted
    (refused_here (own world) (behind_own world) fault
    (refused_lent identity_documents principal_of c.as_slice-principals.result.now c.args.world.now.principals.items fault c.as_slice-principals.ensures.value
    (c.in_err-read_each-4.ensures.fault other)))))
    )

pub returns-in_err-read_each-5-clause-fault : goal.returns-in_err-read_each-5-clause-fault
returns-in_err-read_each-5-clause-fault c =
    let world = world_of c.args.world.now in
    let one = cleared_lent org_documents account_of c.as_slice-accounts.result.now c.args.world.now.accounts.views.items _ _ c.as_slice-accounts.ensures.value c.in_ok-read_each.ensures.cleared in
    let two = cleared_lent control_documents resource_of c.as_slice-resources.result.now c.args.world.now.resources.items _ _ c.as_slice-resources.ensures.value c.in_ok-read_each-2.ensures.cleared in
    let three = cleared_lent resource_documents resource_of c.as_slice-resources.result.now c.args.world.now.resources.items _ _ c.as_slice-resources.ensures.value c.in_ok-read_each-3.ensures.cleared in
    let four = cleared_lent identity_documents principal_of c.as_slice-principals.result.now c.args.world.now.principals.items _ _ c.as_slice-principals.ensures.value c.in_ok-read_each-4.ensures.cleared in
    let p = err_from_is_err_and c.from_residual-in_err-read_each-5.result c.from_residual-in_err-read_each-5.ensures.1 in
    let fault = c.in_err-read_each-5.field-0.0 in
    rw (p.1, p.2)
    (
    λ other.
    refused_later (orgs world) (behind_orgs world) fault one.accepted
    (refused_later (controls world) (behind_controls world) fault two.accepted
    (refused_later (attached world) (behind_attached world) fault three.accepted
    (refused_later (own world) (behind_own world) fault four.accepted
    (refused_here (boundaries world) (sessions world) fault
    (refused_lent boundary_documents principal_of c.as_slice-principals.result.now c.args.world.now.principals.items fault c.as_slice-principals.ensures.value
    (c.in_err-read_each-5.ensures.fault other))))))
    )

pub returns-in_err-read_each-6-clause-fault : goal.returns-in_err-read_each-6-clause-fault
returns-in_err-read_each-6-clause-fault c =
    let world = world_of c.args.world.now in
    let one = cleared_lent org_documents account_of c.as_slice-accounts.result.now c.args.world.now.accounts.views.items _ _ c.as_slice-accounts.ensures.value c.in_ok-read_each.ensures.cleared in
    let two = cleared_lent control_documents resource_of c.as_slice-resources.result.now c.args.world.now.resources.items _ _ c.as_slice-resources.ensures.value c.in_ok-read_each-2.ensures.cleared in
    let three = cleared_lent resource_documents resource_of c.as_slice-resources.result.now c.args.world.now.resources.items _ _ c.as_slice-resources.ensures.value c.in_ok-read_each-3.ensures.cleared in
    let four = cleared_lent identity_documents principal_of c.as_slice-principals.result.now c.args.world.now.principals.items _ _ c.as_slice-principals.ensures.value c.in_ok-read_each-4.ensures.cleared in
    let five = cleared_lent boundary_documents principal_of c.as_slice-principals.result.now c.args.world.now.principals.items _ _ c.as_slice-principals.ensures.value c.in_ok-read_each-5.ensures.cleared in
    let p = err_from_is_err_and c.from_residual-in_err-read_each-6.result c.from_residual-in_err-read_each-6.ensures.1 in
    let fault = c.in_err-read_each-6.field-0.0 in
    rw (p.1, p.2)
    (
    λ other.
    refused_later (orgs world) (behind_orgs world) fault one.accepted
    (refused_later (controls world) (behind_controls world) fault two.accepted
    (refused_later (attached world) (behind_attached world) fault three.accepted
    (refused_later (own world) (behind_own world) fault four.accepted
    (refused_later (boundaries world) (sessions world) fault five.accepted
    (refused_lent session_documents principal_of c.as_slice-principals.result.now c.args.world.now.principals.items fault c.as_slice-principals.ensures.value
    (c.in_err-read_each-6.ensures.fault other))))))
    )

pub returns-clause-ok : goal.returns-clause-ok
returns-clause-ok c = record {
  org =
      zip_map (λ v (levels : _). AllZip (AllZip (Reads kind.Org)) v.org (map (λ level. level.items) levels.items)) account_of c.args.world.now.accounts.views.items c.in_ok-read_each.field-0.items
      (rw c.as_slice-accounts.ensures.value at c.in_ok-read_each.ensures.ok);
  control =
      zip_map (λ v (levels : _). AllZip (AllZip (Reads kind.Control)) v.control (map (λ level. level.items) levels.items)) resource_of c.args.world.now.resources.items c.in_ok-read_each-2.field-0.items
      (rw c.as_slice-resources.ensures.value at c.in_ok-read_each-2.ensures.ok);
  resource =
      zip_map (λ v policy. ReadsOptional kind.Resource v.policy policy) resource_of c.args.world.now.resources.items c.in_ok-read_each-3.field-0.items
      (rw c.as_slice-resources.ensures.value at c.in_ok-read_each-3.ensures.ok);
  identity =
      zip_map (λ v own. AllZip (Reads kind.Identity) v.identity own) principal_of c.args.world.now.principals.items c.in_ok-read_each-4.field-0.items
      (rw c.as_slice-principals.ensures.value at c.in_ok-read_each-4.ensures.ok);
  boundary =
      zip_map (λ v policy. ReadsOptional kind.Identity v.boundary policy) principal_of c.args.world.now.principals.items c.in_ok-read_each-5.field-0.items
      (rw c.as_slice-principals.ensures.value at c.in_ok-read_each-5.ensures.ok);
  session =
      zip_map (λ v own. AllZip (Reads kind.Identity) v.session_policies own) principal_of c.args.world.now.principals.items c.in_ok-read_each-6.field-0.items
      (rw c.as_slice-principals.ensures.value at c.in_ok-read_each-6.ensures.ok);
}

pub returns-clause-cleared : goal.returns-clause-cleared
returns-clause-cleared c =
    let world = world_of c.args.world.now in
    let one = cleared_lent org_documents account_of c.as_slice-accounts.result.now c.args.world.now.accounts.views.items _ _ c.as_slice-accounts.ensures.value c.in_ok-read_each.ensures.cleared in
    let two = cleared_lent control_documents resource_of c.as_slice-resources.result.now c.args.world.now.resources.items _ _ c.as_slice-resources.ensures.value c.in_ok-read_each-2.ensures.cleared in
    let three = cleared_lent resource_documents resource_of c.as_slice-resources.result.now c.args.world.now.resources.items _ _ c.as_slice-resources.ensures.value c.in_ok-read_each-3.ensures.cleared in
    let four = cleared_lent identity_documents principal_of c.as_slice-principals.result.now c.args.world.now.principals.items _ _ c.as_slice-principals.ensures.value c.in_ok-read_each-4.ensures.cleared in
    let five = cleared_lent boundary_documents principal_of c.as_slice-principals.result.now c.args.world.now.principals.items _ _ c.as_slice-principals.ensures.value c.in_ok-read_each-5.ensures.cleared in
    let six = cleared_lent session_documents principal_of c.as_slice-principals.result.now c.args.world.now.principals.items _ _ c.as_slice-principals.ensures.value c.in_ok-read_each-6.ensures.cleared in
    cleared_append (orgs world) (behind_orgs world) _ _ _ one
    (cleared_append (controls world) (behind_controls world) _ _ _ two
    (cleared_append (attached world) (behind_attached world) _ _ _ three
    (cleared_append (own world) (behind_own world) _ _ _ four (cleared_append (boundaries world) (sessions world) _ _ _ five six))))
