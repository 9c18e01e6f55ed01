use Rattle.std.proofs.Common.{◌≡◌, ◌<◌, ℕ, List, Option, Some, length, ap, sym, subst, ◌∙◌, arith}
use Rattle.std.proofs.lemmas.Option.{slice_get-get_or, slice_get_within}
use Rattle.std.specs.Global.{Vec}
use Rattle.std.specs.List.{slice_get}
use Rattle.iam_decision.specs.declared.scan.Standing.{Standing}
use Rattle.iam_world.specs.World.{WorldValue}
use Rattle.iam_index.specs.Index.{Adds, AddsAt, ListsOrg}
use Rattle.iam_index.specs.Numbers.{AreNumbered, AreNumbersAt}
use Rattle.iam_index.specs.declared.lists.Org.{Org}
use Rattle.iam_index.proofs.ListLemmas.{some_same}
use Rattle.iam_index.proofs.NumberLemmas.{adds_at, numbered_at, on_ok}
use Rattle.iam_index.proofs.index.Index.add_org.Goals as goal

pub returns : goal.returns
returns c =
    let p = c.args.p in
    let a = c.args.a in
    let inside = c.self.inside in
    let world = inside.world.now in
    let elements = inside.elements.elements.items in
    let statements = c.as_slice-statements.result.now in
    let text = c.action_text-action.result.now in
    let old = c.args.candidates.now.items in
    let new = c.add_candidates.new.candidates.items in
    let numbers = c.numbers_at-numbers.result.now in
    let principals = inside.orgs.numbers.items in
    let orgs = inside.orgs.orgs.items in
    let number = c.index-number.result.now in
    let here = c.index.result.now in
    let P : WorldValue → Type 0 = λ w. p < length w.principals in
    let there = subst P (sym c.self.view_is) c.requires.principal in
    let within : p < length principals = omega (arith, there, c.self.invariant.orgs_count) in
    let found : slice_get principals p ≡ Some number = slice_get-get_or principals p number within ∙ ap Some (sym c.index-number.ensures) in
    let (org, place, is) = c.self.invariant.orgs_are p number found in
    let read : slice_get orgs number ≡ Some here = slice_get-get_or orgs number here (slice_get_within orgs number org place) ∙ ap Some (sym c.index.ensures) in
    let same = c.as_slice-statements.ensures.value in
    let O : Org → Type 0 = λ o. ListsOrg world p o.statements.items in
    let N : List (Vec (Option ℕ)) → Type 0 = λ known. AreNumbersAt known number numbers in
    let S : List Standing → Type 0 = λ listed. AreNumbered elements listed numbers in
    let L : List Standing → Type 0 = λ listed. ListsOrg world p listed in
    let W : WorldValue → Type 0 = λ w. (x : List Standing) × ListsOrg w p x × AddsAt w a x old new in
    let of : Org → List Standing = λ x. x.statements.items in
    let at = subst N c.as_slice.ensures.value c.numbers_at-numbers.ensures in
    let numbered = subst S (sym same) (numbered_at of elements orgs inside.org_numbers.items number numbers here at read c.self.invariant.org_acts_are) in
    let listed = subst L (sym same) (subst O (some_same org here (sym place ∙ read)) is.lists) in
    on_ok c.add_candidates.result (Adds text statements old new) ((x : List Standing) × ListsOrg c.args.self.now p x × AddsAt c.args.self.now a x old new)
    (λ adds. subst W c.self.view_is (statements, listed, adds_at world a text statements old new c.action_text-action.ensures adds))
    (c.add_candidates.ensures world c.self.invariant.elements_are numbered c.action_text-action.ensures)
