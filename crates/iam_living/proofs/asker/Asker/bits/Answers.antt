use Rattle.std.proofs.Common.{◌∙◌, inl, inr, ℕ, IfSome, List, Option, map, refl, sym, subst}
use Rattle.iam_match.specs.Request.{access_of}
use Rattle.iam_decision.specs.Code.Scan.{placed_value}
use Rattle.iam_decision.specs.Matched.{Placed}
use Rattle.iam_layers.specs.Cell.{IsContextAt}
use Rattle.iam_world.specs.World.{WorldValue}
use Rattle.iam_index.specs.Index.{IsListOf}
use Rattle.iam_index.proofs.ListLemmas.{if_some}
use Rattle.iam_living.specs.Listing.{statements_of}
use Rattle.iam_living.specs.Word.{AreBits}
use Rattle.iam_living.proofs.AskerLemmas.{told_back, told_to}
use Rattle.iam_living.proofs.asker.Asker.bits.Goals as goal

pub returns-in_err-resource-clause-told : goal.returns-in_err-resource-clause-told
returns-in_err-resource-clause-told c = λ p derived at asks told.
    let asker = c.args.self.now in
    let world = c.args.index.now in
    let requester = c.args.access.requester.now in
    let lists = told_to world p derived asker requester c.args.told.now.lists.items c.requires.world asks told.lists in
    record {
      listing = told.listing;
      lists = told_back world p derived asker requester c.list_word.new.told.items c.requires.world asks
          (c.in_err-resource.ensures.told p c.args.r derived at lists);
    }

pub returns-in_err-principal-in-Some-clause-told : goal.returns-in_err-principal-in-Some-clause-told
returns-in_err-principal-in-Some-clause-told c = λ p derived at asks told.
    let asker = c.args.self.now in
    let world = c.args.index.now in
    let requester = c.args.access.requester.now in
    let C : WorldValue → Type 0 = λ w. IsContextAt w p c.args.r derived c.args.access.context.now in
    let lists = told_to world p derived asker requester c.args.told.now.lists.items c.requires.world asks told.lists in
    record {
      listing = c.in_err-principal-in-Some.ensures.told p derived (subst C (sym c.requires.world) at) told.listing;
      lists = told_back world p derived asker requester c.list_word.new.told.items c.requires.world asks
          (c.in_ok-resource.ensures.told p c.args.r derived at lists);
    }

pub returns-in_ok-principal-in-Some-clause-told : goal.returns-in_ok-principal-in-Some-clause-told
returns-in_ok-principal-in-Some-clause-told c = λ p derived at asks told.
    let asker = c.args.self.now in
    let world = c.args.index.now in
    let requester = c.args.access.requester.now in
    let C : WorldValue → Type 0 = λ w. IsContextAt w p c.args.r derived c.args.access.context.now in
    let lists = told_to world p derived asker requester c.args.told.now.lists.items c.requires.world asks told.lists in
    record {
      listing = c.in_ok-principal-in-Some.ensures.told p derived (subst C (sym c.requires.world) at) told.listing;
      lists = told_back world p derived asker requester c.list_word.new.told.items c.requires.world asks
          (c.in_ok-resource.ensures.told p c.args.r derived at lists);
    }

pub returns-in_ok-principal-in-Some-clause-bits : goal.returns-in_ok-principal-in-Some-clause-bits
returns-in_ok-principal-in-Some-clause-bits c =
    let self = c.args.self.now in
    let access = access_of c.args.access in
    let r = c.args.r in
    let n = c.number-n.result in
    let (p, derived, asker, at, told, asks) = c.requires.told in
    let (listed, there, is) = asker.resources r n c.number-n.ensures in
    let statements : List Placed = map placed_value listed.statements.items in
    let marks = told_to c.args.index.now p derived self c.args.access.requester.now c.args.told.now.lists.items c.requires.world asks told.lists in
    let O : Option ℕ → Type 0 = λ o. IfSome o (AreBits access statements) in
    let T : Option ℕ → Type 0 = λ o. IfSome o (AreBits access (statements_of self.listing)) in
    let L : ℕ → Type 0 = λ k. IsListOf self.lists.now.lists.items k statements in
    let B : ℕ → Type 0 = AreBits access statements in
    let found : AreBits access statements c.in-Some.resource =
    subst O c.in-Some.is (c.in_ok-resource.ensures.word p r derived listed at marks there) in
    if_some _ _ c.bits_with.result
    (λ bits (known, same, list). (
      listed,
      (n, c.number-n.ensures, there),
      record {
        asks = asks;
        principal = subst T known c.in_ok-principal-in-Some.ensures.word;
        resource = subst B (sym same) found;
        list = elim list [ inl unset ↦ inl (same ∙ unset) | inr here ↦ inr (subst L (sym here) (listed, there, refl)) ];
      },
    ))
    c.bits_with.ensures

pub returns-in-None-clause-told : goal.returns-in-None-clause-told
returns-in-None-clause-told c = λ p derived at asks told.
    let asker = c.args.self.now in
    let world = c.args.index.now in
    let requester = c.args.access.requester.now in
    let lists = told_to world p derived asker requester c.args.told.now.lists.items c.requires.world asks told.lists in
    record {
      listing = told.listing;
      lists = told_back world p derived asker requester c.list_word.new.told.items c.requires.world asks
          (c.in_ok-resource.ensures.told p c.args.r derived at lists);
    }
