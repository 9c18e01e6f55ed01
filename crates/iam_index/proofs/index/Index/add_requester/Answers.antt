use Rattle.std.proofs.Common.{◌≡◌, ◌<◌, ℕ, List, Option, Some, length, ap, sym, subst, ◌∙◌, arith}
use Rattle.std.proofs.lemmas.Option.{slice_get-get_or}
use Rattle.std.specs.Global.{Vec}
use Rattle.std.specs.List.{slice_get}
use Rattle.iam_decision.specs.declared.scan.Standing.{Standing}
use Rattle.iam_world.specs.World.{WorldValue}
use Rattle.iam_index.specs.Index.{Adds, AddsAt, ListsRequester}
use Rattle.iam_index.specs.Numbers.{AreNumbered, AreNumbersAt}
use Rattle.iam_index.specs.declared.lists.Listed.{Listed}
use Rattle.iam_index.proofs.NumberLemmas.{adds_at, numbered_at, on_ok}
use Rattle.iam_index.proofs.index.Index.add_requester.Goals as goal

pub returns : goal.returns
returns c =
    let p = c.args.p in
    let a = c.args.a in
    let inside = c.self.inside in
    let world = inside.world.now in
    let elements = inside.elements.elements.items in
    let statements = c.as_slice-statements.result.now in
    let text = c.action_text-action.result.now in
    let old = c.args.candidates.now.items in
    let new = c.add_candidates.new.candidates.items in
    let numbers = c.numbers_at-numbers.result.now in
    let lists = inside.requesters.items in
    let here = c.index.result.now in
    let P : WorldValue → Type 0 = λ w. p < length w.principals in
    let there = subst P (sym c.self.view_is) c.requires.principal in
    let within : p < length lists = omega (arith, there, c.self.invariant.requesters_count) in
    let read : slice_get lists p ≡ Some here = slice_get-get_or lists p here within ∙ ap Some (sym c.index.ensures) in
    let same = c.as_slice-statements.ensures.value in
    let N : List (Vec (Option ℕ)) → Type 0 = λ known. AreNumbersAt known p numbers in
    let S : List Standing → Type 0 = λ listed. AreNumbered elements listed numbers in
    let L : List Standing → Type 0 = λ listed. ListsRequester world p listed in
    let W : WorldValue → Type 0 = λ w. (x : List Standing) × ListsRequester w p x × AddsAt w a x old new in
    let of : Listed → List Standing = λ x. x.statements.items in
    let at = subst N c.as_slice.ensures.value c.numbers_at-numbers.ensures in
    let numbered = subst S (sym same) (numbered_at of elements lists inside.requester_numbers.items p numbers here at read c.self.invariant.requester_acts_are) in
    let listed = subst L (sym same) (c.self.invariant.requesters_are p here read) in
    on_ok c.add_candidates.result (Adds text statements old new) ((x : List Standing) × ListsRequester c.args.self.now p x × AddsAt c.args.self.now a x old new)
    (λ adds. subst W c.self.view_is (statements, listed, adds_at world a text statements old new c.action_text-action.ensures adds))
    (c.add_candidates.ensures world c.self.invariant.elements_are numbered c.action_text-action.ensures)
