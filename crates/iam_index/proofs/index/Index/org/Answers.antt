use Rattle.std.proofs.Common.{◌≡◌, ◌<◌, Some, length, ap, sym, ◌∙◌, subst, arith}
use Rattle.std.proofs.lemmas.Option.{slice_get-get_or, slice_get_within}
use Rattle.std.specs.List.{slice_get}
use Rattle.iam_world.specs.World.{WorldValue}
use Rattle.iam_index.specs.Index.{IsOrg}
use Rattle.iam_index.proofs.ListLemmas.{some_same}
use Rattle.iam_index.proofs.index.Index.org.Goals as goal

pub returns : goal.returns
returns c =
    let p = c.args.p in
    let world = c.self.inside.world.now in
    let numbers = c.self.inside.orgs.numbers.items in
    let orgs = c.self.inside.orgs.orgs.items in
    let number = c.index-number.result.now in
    let here = c.index.result.now in
    let N : WorldValue → Type 0 = λ w. p < length w.principals in
    let W : WorldValue → Type 0 = λ w. IsOrg w p here in
    let there = subst N (sym c.self.view_is) c.requires in
    let within : p < length numbers = omega (arith, there, c.self.invariant.orgs_count) in
    let at : slice_get numbers p ≡ Some number = slice_get-get_or numbers p number within ∙ ap Some (sym c.index-number.ensures) in
    let (org, found, is) = c.self.invariant.orgs_are p number at in
    let read : slice_get orgs number ≡ Some here = slice_get-get_or orgs number here (slice_get_within orgs number org found) ∙ ap Some (sym c.index.ensures) in
    let own : org ≡ here = some_same org here (sym found ∙ read) in
    subst W c.self.view_is (subst (IsOrg world p) own is)
