use Rattle.std.proofs.Common.{◌++◌, [], List, IfOk, IfSome, map, refl, subst}
use Rattle.std.proofs.lemmas.List.{append-nil}
use Rattle.iam_match.specs.Request.{access_of}
use Rattle.iam_decision.specs.Code.Scan.{placed_value}
use Rattle.iam_decision.specs.Matched.{Placed}
use Rattle.iam_living.specs.Listing.{ListingValue, statements_of}
use Rattle.iam_living.specs.Word.{AreBits, GoesBefore}
use Rattle.iam_living.proofs.KnownLemmas.{if_found}
use Rattle.iam_living.proofs.MarkLemmas.{told_after, told_org, told_own}
use Rattle.iam_living.proofs.listing.Listing.word.Goals as goal

pub returns-in-Some-clause-word : goal.returns-in-Some-clause-word
returns-in-Some-clause-word c =
    let access = access_of c.args.access in
    let org : List Placed = map placed_value c.self.inside.org.statements in
    let own : List Placed = map placed_value c.self.inside.own.statements in
    let word = c.in-Some.own in
    let goes : GoesBefore access own 0 word = rw c.in-Some.is at c.in_ok-own.ensures.word in
    let P : List Placed → Type 0 = λ z. AreBits access z word in
    let bits : AreBits access own word = subst P (append-nil own) (goes [] refl) in
    let Q : ListingValue → Type 0 = λ v. IfOk c.bits_before-in-Some.result (λ found. IfSome found (AreBits access (statements_of v))) in
    subst Q c.self.view_is
    (if_found (GoesBefore access org word) (AreBits access (org ++ own)) c.bits_before-in-Some.result (λ all before. before own bits) c.bits_before-in-Some.ensures.word)

pub bits_before-requires-clause-told : goal.bits_before-requires-clause-told
bits_before-requires-clause-told c =
    let inside = c.self.inside in
    let world = inside.world.now in
    let alikes = inside.alikes.now in
    let context = c.args.access.context.now in
    let (p, derived, at, told) = c.requires.told in
    let (here, right) = told_own world inside.org inside.own alikes c.args.self.now p c.args.r derived context c.args.told.now c.self.view_is c.self.invariant.1 at told in
    (p, derived, here, right)

pub bits_before-requires-in-Some-clause-told : goal.bits_before-requires-in-Some-clause-told
bits_before-requires-in-Some-clause-told c =
    let inside = c.self.inside in
    let world = inside.world.now in
    let alikes = inside.alikes.now in
    let context = c.args.access.context.now in
    let (p, derived, at, told) = c.requires.told in
    let (here, right) = told_org world inside.org inside.own alikes c.args.self.now p c.args.r derived context c.args.told.now c.self.view_is c.self.invariant.0 at told in
    (p, derived, here, right)

pub returns-in_err-own-clause-told : goal.returns-in_err-own-clause-told
returns-in_err-own-clause-told c = λ p derived at told.
    let inside = c.self.inside in
    let world = inside.world.now in
    let alikes = inside.alikes.now in
    let context = c.args.access.context.now in
    told_after world inside.org inside.own alikes c.args.self.now p c.args.r derived context c.args.told.now (record { org = c.args.told.now.org; own = c.bits_before.new.told }) c.self.view_is
    c.self.invariant.0 c.self.invariant.1 (λ _ right. right) (c.in_err-own.ensures.told p derived) at told

pub returns-in-None-clause-told : goal.returns-in-None-clause-told
returns-in-None-clause-told c = λ p derived at told.
    let inside = c.self.inside in
    let world = inside.world.now in
    let alikes = inside.alikes.now in
    let context = c.args.access.context.now in
    told_after world inside.org inside.own alikes c.args.self.now p c.args.r derived context c.args.told.now (record { org = c.args.told.now.org; own = c.bits_before.new.told }) c.self.view_is
    c.self.invariant.0 c.self.invariant.1 (λ _ right. right) (c.in_ok-own.ensures.told p derived) at told

pub returns-in-Some-clause-told : goal.returns-in-Some-clause-told
returns-in-Some-clause-told c = λ p derived at told.
    let inside = c.self.inside in
    let world = inside.world.now in
    let alikes = inside.alikes.now in
    let context = c.args.access.context.now in
    told_after world inside.org inside.own alikes c.args.self.now p c.args.r derived context c.args.told.now (record { org = c.bits_before-in-Some.new.told; own = c.bits_before.new.told }) c.self.view_is
    c.self.invariant.0 c.self.invariant.1 (c.bits_before-in-Some.ensures.told p derived) (c.in_ok-own.ensures.told p derived) at told
