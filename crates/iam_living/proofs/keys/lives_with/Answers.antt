use Rattle.std.proofs.Common.{[], ◌≡◌, ◌++◌, ℕ, IfSome, Option, refl, map, ap, sym, subst, ◌∙◌}
use Rattle.iam_match.specs.Request.{access_of}
use Rattle.iam_match.specs.Statement.{AccessValue}
use Rattle.iam_decision.specs.Applicable.{ApplicableValue}
use Rattle.iam_decision.specs.Code.Scan.{placed_value}
use Rattle.iam_decision.specs.Living.{IsShared, SharedValue, living_value}
use Rattle.iam_layers.specs.Cell.{IsAccessAt, IsContextAt, IsResource}
use Rattle.iam_world.specs.World.{WorldValue}
use Rattle.iam_index.specs.Index.{ListsResource}
use Rattle.iam_index.specs.declared.lists.Listed.{Listed}
use Rattle.iam_index.proofs.ListLemmas.{some_apply, some_same}
use Rattle.iam_living.specs.Asker.{AreBitsOf, AreNumbered}
use Rattle.iam_living.specs.declared.asker.Bits.{Bits}
use Rattle.iam_living.proofs.AccessLemmas.{context_of_listing, given_at}
use Rattle.iam_living.proofs.AskerLemmas.{asked_by}
use Rattle.iam_living.proofs.keys.lives_with.Goals as goal

-- what is asked for is the resource of this number
asks_for : (world : WorldValue) (p r : ℕ) (a : ApplicableValue) (access : AccessValue) → IsAccessAt world p r a access
    → IsResource world r (λ resource. access.resource ≡ resource.arn)
asks_for world p r a access is = (is.resource, is.resource_is, ap (λ (x : AccessValue). x.resource) is.access_is)

pub bits-requires-clause-resource : goal.bits-requires-clause-resource
bits-requires-clause-resource c =
    let world = c.args.index.now in
    let p = c.args.p in
    let r = c.args.r in
    let derived = c.args.derived.now.items in
    let (a, applies) = some_apply world p r c.requires.principal c.requires.resource in
    let access = access_of c.access_in-access.result in
    let accessed = given_at world c.world.result.now c.parts.result.now p r derived c.context-context.result a access c.world.ensures c.parts.ensures
    c.requires.derived c.context-context.ensures applies c.access_in-access.ensures.access in
    asks_for world p r a access accessed

pub bits-requires-clause-told : goal.bits-requires-clause-told
bits-requires-clause-told c =
    let world = c.args.index.now in
    let p = c.args.p in
    let r = c.args.r in
    let derived = c.args.derived.now.items in
    let (a, applies) = some_apply world p r c.requires.principal c.requires.resource in
    let access = access_of c.access_in-access.result in
    let accessed = given_at world c.world.result.now c.parts.result.now p r derived c.context-context.result a access c.world.ensures c.parts.ensures
    c.requires.derived c.context-context.ensures applies c.access_in-access.ensures.access in
    let at = context_of_listing world c.parts.result.now world p r derived c.context-context.result c.access_in-access.result.context.now
    c.parts.ensures refl c.access_in-access.ensures.context c.context-context.ensures in
    let asks = asked_by world p r c.args.asker.now a access c.requires.asker accessed in
    (p, derived, c.requires.asker, at, c.requires.told, asks)

pub returns-in_err-bits-clause-told : goal.returns-in_err-bits-clause-told
returns-in_err-bits-clause-told c =
    let world = c.args.index.now in
    let p = c.args.p in
    let r = c.args.r in
    let derived = c.args.derived.now.items in
    let (a, applies) = some_apply world p r c.requires.principal c.requires.resource in
    let access = access_of c.access_in-access.result in
    let accessed = given_at world c.world.result.now c.parts.result.now p r derived c.context-context.result a access c.world.ensures c.parts.ensures
    c.requires.derived c.context-context.ensures applies c.access_in-access.ensures.access in
    let at = context_of_listing world c.parts.result.now world p r derived c.context-context.result c.access_in-access.result.context.now
    c.parts.ensures refl c.access_in-access.ensures.context c.context-context.ensures in
    let asks = asked_by world p r c.args.asker.now a access c.requires.asker accessed in
    c.in_err-bits.ensures.told p derived at asks c.requires.told

pub returns-in-Some-clause-told : goal.returns-in-Some-clause-told
returns-in-Some-clause-told c =
    let world = c.args.index.now in
    let p = c.args.p in
    let r = c.args.r in
    let derived = c.args.derived.now.items in
    let (a, applies) = some_apply world p r c.requires.principal c.requires.resource in
    let access = access_of c.access_in-access.result in
    let accessed = given_at world c.world.result.now c.parts.result.now p r derived c.context-context.result a access c.world.ensures c.parts.ensures
    c.requires.derived c.context-context.ensures applies c.access_in-access.ensures.access in
    let at = context_of_listing world c.parts.result.now world p r derived c.context-context.result c.access_in-access.result.context.now
    c.parts.ensures refl c.access_in-access.ensures.context c.context-context.ensures in
    let asks = asked_by world p r c.args.asker.now a access c.requires.asker accessed in
    c.in_ok-bits.ensures.told p derived at asks c.requires.told

pub returns-in-Some-clause-lives : goal.returns-in-Some-clause-lives
returns-in-Some-clause-lives c =
    let world = c.args.index.now in
    let p = c.args.p in
    let r = c.args.r in
    let derived = c.args.derived.now.items in
    let (a, applies) = some_apply world p r c.requires.principal c.requires.resource in
    let access = access_of c.access_in-access.result in
    let accessed = given_at world c.world.result.now c.parts.result.now p r derived c.context-context.result a access c.world.ensures c.parts.ensures
    c.requires.derived c.context-context.ensures applies c.access_in-access.ensures.access in
    let asker = c.args.asker.now in
    let O : Option Bits → Type 0 = λ o. IfSome o (λ bits. (listed : Listed) × AreNumbered asker r listed
    × AreBitsOf asker access (map placed_value listed.statements.items) bits) in
    let (listed, (n, at, there), are) = subst O c.in-Some.is c.in_ok-bits.ensures.bits in
    let (other, also, lists) = c.requires.asker.resources r n at in
    let L : Listed → Type 0 = λ l. ListsResource world r l.statements.items in
    record {
      applicable = a;
      access = access;
      listed = listed.statements.items;
      at = accessed;
      lists = subst L (some_same other listed (sym also ∙ there)) lists;
      are = are;
    }

pub returns-in_err-add_all-clause-told : goal.returns-in_err-add_all-clause-told
returns-in_err-add_all-clause-told c =
    let world = c.args.index.now in
    let p = c.args.p in
    let r = c.args.r in
    let derived = c.args.derived.now.items in
    let (a, applies) = some_apply world p r c.requires.principal c.requires.resource in
    let access = access_of c.access_in-access.result in
    let accessed = given_at world c.world.result.now c.parts.result.now p r derived c.context-context.result a access c.world.ensures c.parts.ensures
    c.requires.derived c.context-context.ensures applies c.access_in-access.ensures.access in
    let at = context_of_listing world c.parts.result.now world p r derived c.context-context.result c.access_in-access.result.context.now
    c.parts.ensures refl c.access_in-access.ensures.context c.context-context.ensures in
    let asks = asked_by world p r c.args.asker.now a access c.requires.asker accessed in
    c.in_ok-bits.ensures.told p derived at asks c.requires.told

pub living_around-requires-clause-resource : goal.living_around-requires-clause-resource
living_around-requires-clause-resource c =
    let world = c.args.index.now in
    let p = c.args.p in
    let r = c.args.r in
    let derived = c.args.derived.now.items in
    let (a, applies) = some_apply world p r c.requires.principal c.requires.resource in
    let access = access_of c.access_in-access.result in
    let accessed = given_at world c.world.result.now c.parts.result.now p r derived c.context-context.result a access c.world.ensures c.parts.ensures
    c.requires.derived c.context-context.ensures applies c.access_in-access.ensures.access in
    let A : WorldValue → Type 0 = λ w. IsResource w r (λ x. c.access_in-access.result.resource.now ≡ x.arn) in
    subst A (sym c.requires.asker.of) (asks_for world p r a access accessed)

pub living_around-requires-clause-told : goal.living_around-requires-clause-told
living_around-requires-clause-told c =
    let world = c.args.index.now in
    let p = c.args.p in
    let r = c.args.r in
    let derived = c.args.derived.now.items in
    let (a, applies) = some_apply world p r c.requires.principal c.requires.resource in
    let access = access_of c.access_in-access.result in
    let accessed = given_at world c.world.result.now c.parts.result.now p r derived c.context-context.result a access c.world.ensures c.parts.ensures
    c.requires.derived c.context-context.ensures applies c.access_in-access.ensures.access in
    let at = context_of_listing world c.parts.result.now world p r derived c.context-context.result c.access_in-access.result.context.now
    c.parts.ensures refl c.access_in-access.ensures.context c.context-context.ensures in
    let asks = asked_by world p r c.args.asker.now a access c.requires.asker accessed in
    let C : WorldValue → Type 0 = λ w. IsContextAt w p r derived c.access_in-access.result.context.now in
    let here = subst C (sym c.requires.asker.of) at in
    let told = c.in_ok-bits.ensures.told p derived at asks c.requires.told in
    (p, derived, here, told.listing)

pub returns-in_err-living-clause-told : goal.returns-in_err-living-clause-told
returns-in_err-living-clause-told c =
    let world = c.args.index.now in
    let p = c.args.p in
    let r = c.args.r in
    let derived = c.args.derived.now.items in
    let (a, applies) = some_apply world p r c.requires.principal c.requires.resource in
    let access = access_of c.access_in-access.result in
    let accessed = given_at world c.world.result.now c.parts.result.now p r derived c.context-context.result a access c.world.ensures c.parts.ensures
    c.requires.derived c.context-context.ensures applies c.access_in-access.ensures.access in
    let at = context_of_listing world c.parts.result.now world p r derived c.context-context.result c.access_in-access.result.context.now
    c.parts.ensures refl c.access_in-access.ensures.context c.context-context.ensures in
    let asks = asked_by world p r c.args.asker.now a access c.requires.asker accessed in
    let C : WorldValue → Type 0 = λ w. IsContextAt w p r derived c.access_in-access.result.context.now in
    let here = subst C (sym c.requires.asker.of) at in
    let told = c.in_ok-bits.ensures.told p derived at asks c.requires.told in
    record { listing = c.in_err-living.ensures.told p derived here told.listing; lists = told.lists }

pub returns-clause-told : goal.returns-clause-told
returns-clause-told c =
    let world = c.args.index.now in
    let p = c.args.p in
    let r = c.args.r in
    let derived = c.args.derived.now.items in
    let (a, applies) = some_apply world p r c.requires.principal c.requires.resource in
    let access = access_of c.access_in-access.result in
    let accessed = given_at world c.world.result.now c.parts.result.now p r derived c.context-context.result a access c.world.ensures c.parts.ensures
    c.requires.derived c.context-context.ensures applies c.access_in-access.ensures.access in
    let at = context_of_listing world c.parts.result.now world p r derived c.context-context.result c.access_in-access.result.context.now
    c.parts.ensures refl c.access_in-access.ensures.context c.context-context.ensures in
    let asks = asked_by world p r c.args.asker.now a access c.requires.asker accessed in
    let C : WorldValue → Type 0 = λ w. IsContextAt w p r derived c.access_in-access.result.context.now in
    let here = subst C (sym c.requires.asker.of) at in
    let told = c.in_ok-bits.ensures.told p derived at asks c.requires.told in
    record { listing = c.in_ok-living.ensures.told p derived here told.listing; lists = told.lists }

pub returns-clause-lives : goal.returns-clause-lives
returns-clause-lives c =
    let world = c.args.index.now in
    let p = c.args.p in
    let r = c.args.r in
    let derived = c.args.derived.now.items in
    let (a, applies) = some_apply world p r c.requires.principal c.requires.resource in
    let access = access_of c.access_in-access.result in
    let accessed = given_at world c.world.result.now c.parts.result.now p r derived c.context-context.result a access c.world.ensures c.parts.ensures
    c.requires.derived c.context-context.ensures applies c.access_in-access.ensures.access in
    let listing = c.args.asker.now.listing in
    let listed = c.resource_statements.result.now in
    let S : SharedValue → Type 0 = IsShared world.actions a access in
    let found = c.in_ok-add_all.ensures [] ([], refl, ap (map living_value) c.new-found.ensures.items) in (
      a,
      access,
      accessed,
      subst S (sym c.of.ensures) (record {
        candidates = listing.org ++ (map placed_value listed ++ listing.own);
        frame = c.frame.ensures a applies;
        are = c.requires.asker.lists r a listed applies c.resource_statements.ensures;
        living = c.in_ok-living.ensures.living (map placed_value listed) found;
      }),
    )
