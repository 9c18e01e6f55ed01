use Rattle.std.proofs.Common.{◌≡◌, refl, ap, sym, subst, ◌∙◌}
use Rattle.iam_match.specs.Request.{access_of}
use Rattle.iam_match.specs.Statement.{AccessValue}
use Rattle.iam_decision.specs.Living.{IsShared, SharedValue}
use Rattle.iam_layers.specs.Applicable.{applicable_of}
use Rattle.iam_layers.specs.Cell.{IsAccessAt, IsApplicableAt, IsContextAt, IsRequestContext, IsResource}
use Rattle.iam_world.specs.World.{WorldValue}
use Rattle.iam_index.proofs.ListLemmas.{some_apply}
use Rattle.iam_living.proofs.keys.shared_with.Goals as goal

pub access-access-requires-clause-context : goal.access-access-requires-clause-context
access-access-requires-clause-context c =
    let p = c.args.p in
    let r = c.args.r in
    let derived = c.args.derived.now.items in
    let C : WorldValue → Type 0 = λ w. IsContextAt w p r derived c.context-context.result in
    let R : WorldValue → Type 0 = λ w. IsRequestContext w p r c.context-context.result in
    subst R (sym c.world-world.ensures) (derived, c.requires.derived, subst C c.parts.ensures c.context-context.ensures)

pub living-requires-clause-resource : goal.living-requires-clause-resource
living-requires-clause-resource c =
    let p = c.args.p in
    let r = c.args.r in
    let world = c.world-world.result.now in
    let access = access_of c.access-access.result in
    let C : WorldValue → Type 0 = λ w. IsContextAt w p r c.args.derived.now.items c.context-context.result in
    let (principal, at, (resource, there, is)) = subst C (c.parts.ensures ∙ sym c.world-world.ensures) c.context-context.ensures in
    let accessed = c.access-access.ensures (applicable_of world principal resource) (principal, at, (resource, there, refl)) in
    let A : WorldValue → Type 0 = λ w. IsResource w r (λ x. access.resource ≡ x.arn) in
    subst A c.world-world.ensures (accessed.resource, accessed.resource_is, ap (λ (x : AccessValue). x.resource) accessed.access_is)

pub returns : goal.returns
returns c =
    let world = c.args.index.now in
    let p = c.args.p in
    let r = c.args.r in
    let (a, applies) = some_apply world p r c.requires.principal c.requires.resource in
    let access = access_of c.access-access.result in
    let B : WorldValue → Type 0 = λ w. IsApplicableAt w p r a → IsAccessAt w p r a access in
    let S : SharedValue → Type 0 = IsShared world.actions a access in
    let accessed = subst B c.world-world.ensures (c.access-access.ensures a) applies in
    let (candidates, listed, living) = c.in_ok-living.ensures a applies in (
      a,
      access,
      accessed,
      subst S (sym c.of.ensures) (record { candidates = candidates; frame = c.frame.ensures a applies; are = listed; living = living }),
    )

pub living-requires-clause-context : goal.living-requires-clause-context
living-requires-clause-context c =
    let world = c.args.index.now in
    let p = c.args.p in
    let r = c.args.r in
    let (a, applies) = some_apply world p r c.requires.principal c.requires.resource in
    let access = access_of c.access-access.result in
    let B : WorldValue → Type 0 = λ w. IsApplicableAt w p r a → IsAccessAt w p r a access in
    let accessed = subst B c.world-world.ensures (c.access-access.ensures a) applies in (
      accessed.derived,
      (
        accessed.principal,
        accessed.principal_is,
        (accessed.resource, accessed.resource_is, ap (λ (x : AccessValue). x.context) accessed.access_is),
      ),
    )
