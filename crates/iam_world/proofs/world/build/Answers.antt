use Rattle.std.proofs.Common.{List, map, string_bytes, refl, sym, subst}
use Rattle.std.specs.List.{AllZip}
use Rattle.iam_shape.specs.Lent.{account_of, principal_of, resource_of}
use Rattle.iam_shape.specs.LentWorld.{world_of}
use Rattle.iam_world.specs.Reads.{ReadsAccount, ReadsPrincipal, ReadsResource, ReadsWorld}
use Rattle.iam_world.specs.World.{AccountValue, PrincipalValue, ResourceValue}
use Rattle.iam_world.proofs.Worlds.{reads_accounts, reads_principals, reads_resources, sized}
use Rattle.iam_world.proofs.world.build.Goals as goal

-- the world that is built is read of the view
read : (c : goal.After-numbers_of-numbers) → ReadsWorld (world_of c.args.world) (record {
  moment = c.args.world.moment;
  accounts = c.in_ok-accounts.accounts.items;
  principals = c.in_ok-principals.principals.items;
  actions = map string_bytes c.in_ok-actions.actions.items;
  resources = c.in_ok-resources.resources.items;
  context = c.args.contexts.world.items;
})
read c =
    let lent = c.args.world in
    let policies = c.args.policies in
    let contexts = c.args.contexts in
    let A : List AccountValue → Type 0 = AllZip ReadsAccount (map account_of lent.accounts.views.items) in
    let P : List PrincipalValue → Type 0 = AllZip ReadsPrincipal (map principal_of lent.principals.items) in
    let R : List ResourceValue → Type 0 = AllZip ReadsResource (map resource_of lent.resources.items) in
    record {
      moment = refl;
      accounts =
          subst A (sym (rw c.as_slice.ensures.value at c.in_ok-accounts.ensures))
          (reads_accounts (λ levels. map (λ level. level.items) levels.items) (map account_of lent.accounts.views.items) policies.org.items c.requires.policies.org);
      principals =
          subst P (sym c.in_ok-principals.ensures)
          (reads_principals (λ part. part.items) (map principal_of lent.principals.items) c.args.requesters.items policies.identity.items policies.boundary.items
          policies.session.items contexts.principals.items c.requires.requesters c.requires.policies.identity c.requires.policies.boundary c.requires.policies.session
          c.requires.contexts.principals);
      actions = rw c.as_slice-2.ensures.value at c.in_ok-actions.ensures;
      resources =
          subst R (sym (rw c.as_slice-3.ensures.value at c.in_ok-resources.ensures))
          (reads_resources (λ levels. map (λ level. level.items) levels.items) (λ part. part.items) (map resource_of lent.resources.items) policies.resource.items
          policies.control.items contexts.resources.items c.requires.policies.resource c.requires.policies.control c.requires.contexts.resources);
      context = c.requires.contexts.world;
    }

pub invariant_of-result : goal.invariant_of-result
invariant_of-result c =
    sized (world_of c.args.world) _ c.args.sizes.0 c.args.sizes.1 c.numbers_of-numbers.result (read c) c.requires.small c.requires.moment c.requires.cells c.requires.statements
    c.requires.within c.requires.contexts.clean c.numbers_of-numbers.ensures

pub returns : goal.returns
returns c = read c
