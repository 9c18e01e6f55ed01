use Rattle.std.proofs.Common.{◌++◌, [], List, map, refl, ap, sym, subst, append_assoc}
use Rattle.iam_match.specs.Request.{access_of}
use Rattle.iam_decision.specs.Code.Scan.{placed_value}
use Rattle.iam_decision.specs.Living.{AreLiving, LivingValue, living_value}
use Rattle.iam_decision.specs.Matched.{Placed}
use Rattle.iam_living.specs.Listing.{ListingValue}
use Rattle.iam_living.proofs.MarkLemmas.{told_after, told_org, told_own}
use Rattle.iam_living.proofs.WordLemmas.{living_append}
use Rattle.iam_living.proofs.listing.Listing.living_around.Goals as goal

pub returns-clause-living : goal.returns-clause-living
returns-clause-living c = λ listed are.
    let access = access_of c.args.access in
    let org : List Placed = map placed_value c.self.inside.org.statements in
    let own : List Placed = map placed_value c.self.inside.own.statements in
    let some = map living_value c.add_known.new.living.items in
    let theirs = map living_value c.args.found.items in
    let all = map living_value c.add_known-2.new.living.items in
    let first : AreLiving access org some = c.in_ok-add_known.ensures.living [] ([], refl, ap (map living_value) c.new-living.ensures.items) in
    let L : List LivingValue → Type 0 = AreLiving access (org ++ listed) in
    let more = subst L (sym c.in_ok-all.ensures) (living_append access org listed some theirs first are) in
    let A : List Placed → Type 0 = λ z. AreLiving access z all in
    let last = subst A (append_assoc org listed own) (c.in_ok-add_known-2.ensures.living (org ++ listed) more) in
    let V : ListingValue → Type 0 = λ v. AreLiving access (v.org ++ (listed ++ v.own)) all in
    subst V c.self.view_is last

pub add_known-requires-clause-told : goal.add_known-requires-clause-told
add_known-requires-clause-told c =
    let inside = c.self.inside in
    let world = inside.world.now in
    let alikes = inside.alikes.now in
    let context = c.args.access.context.now in
    let (p, derived, at, told) = c.requires.told in
    let (here, right) = told_org world inside.org inside.own alikes c.args.self.now p c.args.r derived context c.args.told.now c.self.view_is c.self.invariant.0 at told in
    (p, derived, here, right)

pub add_known-requires-2-clause-told : goal.add_known-requires-2-clause-told
add_known-requires-2-clause-told c =
    let inside = c.self.inside in
    let world = inside.world.now in
    let alikes = inside.alikes.now in
    let context = c.args.access.context.now in
    let (p, derived, at, told) = c.requires.told in
    let (here, right) = told_own world inside.org inside.own alikes c.args.self.now p c.args.r derived context c.args.told.now c.self.view_is c.self.invariant.1 at told in
    (p, derived, here, right)

pub returns-in_err-add_known-clause-told : goal.returns-in_err-add_known-clause-told
returns-in_err-add_known-clause-told c = λ p derived at told.
    let inside = c.self.inside in
    let world = inside.world.now in
    let alikes = inside.alikes.now in
    let context = c.args.access.context.now in
    told_after world inside.org inside.own alikes c.args.self.now p c.args.r derived context c.args.told.now (record { org = c.add_known.new.told; own = c.args.told.now.own }) c.self.view_is
    c.self.invariant.0 c.self.invariant.1 (c.in_err-add_known.ensures.told p derived) (λ _ right. right) at told

pub returns-in_err-all-clause-told : goal.returns-in_err-all-clause-told
returns-in_err-all-clause-told c = λ p derived at told.
    let inside = c.self.inside in
    let world = inside.world.now in
    let alikes = inside.alikes.now in
    let context = c.args.access.context.now in
    told_after world inside.org inside.own alikes c.args.self.now p c.args.r derived context c.args.told.now (record { org = c.add_known.new.told; own = c.args.told.now.own }) c.self.view_is
    c.self.invariant.0 c.self.invariant.1 (c.in_ok-add_known.ensures.told p derived) (λ _ right. right) at told

pub returns-in_err-add_known-2-clause-told : goal.returns-in_err-add_known-2-clause-told
returns-in_err-add_known-2-clause-told c = λ p derived at told.
    let inside = c.self.inside in
    let world = inside.world.now in
    let alikes = inside.alikes.now in
    let context = c.args.access.context.now in
    told_after world inside.org inside.own alikes c.args.self.now p c.args.r derived context c.args.told.now (record { org = c.add_known.new.told; own = c.add_known-2.new.told }) c.self.view_is
    c.self.invariant.0 c.self.invariant.1 (c.in_ok-add_known.ensures.told p derived) (c.in_err-add_known-2.ensures.told p derived) at told

pub returns-clause-told : goal.returns-clause-told
returns-clause-told c = λ p derived at told.
    let inside = c.self.inside in
    let world = inside.world.now in
    let alikes = inside.alikes.now in
    let context = c.args.access.context.now in
    told_after world inside.org inside.own alikes c.args.self.now p c.args.r derived context c.args.told.now (record { org = c.add_known.new.told; own = c.add_known-2.new.told }) c.self.view_is
    c.self.invariant.0 c.self.invariant.1 (c.in_ok-add_known.ensures.told p derived) (c.in_ok-add_known-2.ensures.told p derived) at told
