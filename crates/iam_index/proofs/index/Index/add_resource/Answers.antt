use Rattle.std.proofs.Common.{◌<◌, ℕ, List, Option, length, sym, subst, arith}
use Rattle.std.proofs.lemmas.Option.{slice_get_within}
use Rattle.std.specs.Global.{Vec}
use Rattle.iam_decision.specs.declared.scan.Standing.{Standing}
use Rattle.iam_world.specs.World.{WorldValue}
use Rattle.iam_index.specs.Index.{Adds, AddsAt, ListsResource}
use Rattle.iam_index.specs.Numbers.{AreNumbered, AreNumbersAt}
use Rattle.iam_index.specs.declared.lists.Listed.{Listed}
use Rattle.iam_index.proofs.NumberLemmas.{adds_at, numbered_at, on_ok}
use Rattle.iam_index.proofs.index.Index.add_resource.Goals as goal

pub number-number-requires : goal.number-number-requires
number-number-requires c =
    let N : WorldValue → Type 0 = λ w. c.args.r < length w.resources in
    let there = subst N (sym c.self.view_is) c.requires.resource in
    omega (arith, there, c.self.invariant.resources_count)

pub statements-statements-requires : goal.statements-statements-requires
statements-statements-requires c =
    let (listed, at, is) = c.self.invariant.resources_are c.args.r c.number-number.result c.number-number.ensures in
    slice_get_within c.self.inside.resources.lists.items c.number-number.result listed at

pub returns : goal.returns
returns c =
    let r = c.args.r in
    let a = c.args.a in
    let inside = c.self.inside in
    let world = inside.world.now in
    let elements = inside.elements.elements.items in
    let statements = c.statements-statements.result.now in
    let text = c.action_text-action.result.now in
    let old = c.args.candidates.now.items in
    let new = c.add_candidates.new.candidates.items in
    let numbers = c.numbers_at-numbers.result.now in
    let lists = inside.resources.lists.items in
    let number = c.number-number.result in
    let (here, read, is) = c.self.invariant.resources_are r number c.number-number.ensures in
    let same = c.statements-statements.ensures here read in
    let N : List (Vec (Option ℕ)) → Type 0 = λ known. AreNumbersAt known number numbers in
    let S : List Standing → Type 0 = λ listed. AreNumbered elements listed numbers in
    let L : List Standing → Type 0 = λ listed. ListsResource world r listed in
    let W : WorldValue → Type 0 = λ w. (x : List Standing) × ListsResource w r x × AddsAt w a x old new in
    let of : Listed → List Standing = λ x. x.statements.items in
    let at = subst N c.as_slice.ensures.value c.numbers_at-numbers.ensures in
    let numbered = subst S (sym same) (numbered_at of elements lists inside.resource_numbers.items number numbers here at read c.self.invariant.resource_acts_are) in
    let listed = subst L (sym same) is in
    on_ok c.add_candidates.result (Adds text statements old new) ((x : List Standing) × ListsResource c.args.self.now r x × AddsAt c.args.self.now a x old new)
    (λ adds. subst W c.self.view_is (statements, listed, adds_at world a text statements old new c.action_text-action.ensures adds))
    (c.add_candidates.ensures world c.self.invariant.elements_are numbered c.action_text-action.ensures)
