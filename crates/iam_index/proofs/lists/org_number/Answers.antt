use Rattle.std.proofs.Common.{◌≡◌, ◌++◌, ◌∷◌, [], ℕ, List, Some, length, sym, subst, arith}
use Rattle.std.specs.List.{slice_get}
use Rattle.iam_index.specs.Index.{AreOrgs, HasOrg}
use Rattle.iam_index.specs.declared.lists.Org.{Org}
use Rattle.iam_index.proofs.ListLemmas.{get_next}
use Rattle.iam_index.proofs.ListedLemmas.{orgs_more}
use Rattle.iam_index.proofs.lists.org_number.Goals as goal

pub known_org-requires-clause-orgs : goal.known_org-requires-clause-orgs
known_org-requires-clause-orgs c = let P : List Org → Type 0 = AreOrgs c.args.world.now in subst P (sym c.as_slice.ensures.value) c.requires.orgs

pub returns-in-Some-clause-number : goal.returns-in-Some-clause-number
returns-in-Some-clause-number c =
    let P : List Org → Type 0 = λ orgs. HasOrg c.args.world.now orgs c.args.p c.in-Some.number in
    subst P c.as_slice.ensures.value c.in-Some.ensures

pub returns-clause-orgs : goal.returns-clause-orgs
returns-clause-orgs c =
    let world = c.args.world.now in
    let org : Org = record { principal = c.args.p; levels = c.org_levels.result; statements = c.in_ok-statements.statements } in
    let P : List Org → Type 0 = AreOrgs world in
    subst P (sym c.in_ok-push.ensures.items) (orgs_more world c.args.orgs.now.items org (record { levels = c.org_levels.ensures; lists = c.in_ok-statements.ensures.listed }) c.requires.orgs)

pub returns-clause-number : goal.returns-clause-number
returns-clause-number c =
    let orgs = c.args.orgs.now.items in
    let org : Org = record { principal = c.args.p; levels = c.org_levels.result; statements = c.in_ok-statements.statements } in
    let R : List Org → Type 0 = λ all. HasOrg c.args.world.now all c.args.p c.len-number.result in
    let N : ℕ → Type 0 = λ n. slice_get (orgs ++ org ∷ []) n ≡ Some org in
    let is : length orgs ≡ c.len-number.result = omega (arith, c.len-number.ensures) in
    subst R (sym c.in_ok-push.ensures.items) (org, subst N is (get_next orgs org), record { levels = c.org_levels.ensures; lists = c.in_ok-statements.ensures.listed })
