use Rattle.std.proofs.Common.{◌≡◌, ◌<◌, Some, get_or, length, ap, sym, ◌∙◌, subst, arith}
use Rattle.std.proofs.lemmas.Option.{slice_get-get_or}
use Rattle.std.specs.List.{slice_get}
use Rattle.iam_layers.specs.Code.Statements.{HaveSameOrg}
use Rattle.iam_index.specs.declared.lists.Org.{Org}
use Rattle.iam_index.proofs.ListedLemmas.{same_is_org}
use Rattle.iam_index.proofs.lists.known_org.Goals as goal

pub returns-then-has_same_org : goal.returns-then-has_same_org
returns-then-has_same_org c =
    let world = c.args.world.now in
    let orgs = c.args.orgs.now in
    let n = c.in_ok-number.field-0.now in
    let within : n < length orgs = omega (arith, c.if-number-orgs.true) in
    let org = c.index-orgs-number.result in
    let read = sym c.index-orgs-number.is in
    let at : slice_get orgs n ≡ Some org = slice_get-get_or orgs n org within ∙ ap Some read in
    let inside : (get_or orgs n org).principal < length world.principals = omega (arith, c.principals.ensures, c.if-other-principals.true) in
    let B : Org → Type 0 = λ o. o.principal < length world.principals in
    let S : Org → Type 0 = λ o. HaveSameOrg world c.args.p o.principal in
    (org, at, same_is_org world c.args.p org.principal org (subst B read inside) (subst S read (c.has_same_org.ensures c.if-has_same_org.true)) (c.requires.orgs n org at))
