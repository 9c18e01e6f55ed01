use Rattle.std.proofs.Common.{◌≡◌, ◌<◌, ◌++◌, ◌∙◌, List, Some, length, map, ap, sym, subst, arith}
use Rattle.std.proofs.lemmas.Option.{slice_get-get_or, slice_get_within}
use Rattle.std.specs.List.{slice_get}
use Rattle.iam_decision.specs.Code.Scan.{placed_value}
use Rattle.iam_decision.specs.declared.scan.Standing.{Standing}
use Rattle.iam_world.specs.World.{WorldValue}
use Rattle.iam_index.specs.Index.{ListsOrg, ListsRequester}
use Rattle.iam_index.specs.Known.{AreAlike}
use Rattle.iam_index.specs.Rows.{IsListRows}
use Rattle.iam_index.specs.declared.list_rows.ListRows.{ListRows}
use Rattle.iam_index.specs.declared.lists.Org.{Org}
use Rattle.iam_index.proofs.AlikeLemmas.{alike}
use Rattle.iam_index.proofs.ListLemmas.{if_some, some_same}
use Rattle.iam_index.proofs.index.Index.theirs.Goals as goal

pub of-requires-clause-list : goal.of-requires-clause-list
of-requires-clause-list c =
    let p = c.args.p in
    let numbers = c.self.inside.orgs.numbers.items in
    let orgs = c.self.inside.orgs.orgs.items in
    let number = c.index-number.result.now in
    let here = c.index.result.now in
    let rows = c.self.inside.rows.rows.items in
    let N : WorldValue → Type 0 = λ w. p < length w.principals in
    let there = subst N (sym c.self.view_is) c.requires in
    let within : p < length numbers = omega (arith, there, c.self.invariant.orgs_count) in
    let at : slice_get numbers p ≡ Some number = slice_get-get_or numbers p number within ∙ ap Some (sym c.index-number.ensures) in
    let (org, found, is) = c.self.invariant.orgs_are p number at in
    let read : slice_get orgs number ≡ Some here = slice_get-get_or orgs number here (slice_get_within orgs number org found) ∙ ap Some (sym c.index.ensures) in
    if_some _ _ c.list_at-org_rows.result
    (λ list at_list.
    let S : List ListRows → Type 0 = λ known. slice_get known number ≡ Some list.now in
    let T : List Standing → Type 0 = λ statements. IsListRows rows statements list.now in
    (subst T (sym c.as_slice-org.ensures.value) (c.self.invariant.org_rows_are number here list.now read (subst S c.as_slice.ensures.value at_list))).are)
    c.list_at-org_rows.ensures

pub of-requires-2-clause-list : goal.of-requires-2-clause-list
of-requires-2-clause-list c =
    let p = c.args.p in
    let lists = c.self.inside.requesters.items in
    let here = c.index-2.result.now in
    let rows = c.self.inside.rows.rows.items in
    let N : WorldValue → Type 0 = λ w. p < length w.principals in
    let there = subst N (sym c.self.view_is) c.requires in
    let within : p < length lists = omega (arith, there, c.self.invariant.requesters_count) in
    let read : slice_get lists p ≡ Some here = slice_get-get_or lists p here within ∙ ap Some (sym c.index-2.ensures) in
    if_some _ _ c.list_at-own_rows.result
    (λ list is.
    let S : List ListRows → Type 0 = λ known. slice_get known p ≡ Some list.now in
    let T : List Standing → Type 0 = λ statements. IsListRows rows statements list.now in
    (subst T (sym c.as_slice-own.ensures.value) (c.self.invariant.requester_rows_are p here list.now read (subst S c.as_slice-2.ensures.value is))).are)
    c.list_at-own_rows.ensures

pub returns-clause-org : goal.returns-clause-org
returns-clause-org c =
    let p = c.args.p in
    let world = c.self.inside.world.now in
    let numbers = c.self.inside.orgs.numbers.items in
    let orgs = c.self.inside.orgs.orgs.items in
    let number = c.index-number.result.now in
    let here = c.index.result.now in
    let N : WorldValue → Type 0 = λ w. p < length w.principals in
    let W : WorldValue → Type 0 = λ w. ListsOrg w p here.statements.items in
    let O : Org → Type 0 = λ o. ListsOrg world p o.statements.items in
    let there = subst N (sym c.self.view_is) c.requires in
    let within : p < length numbers = omega (arith, there, c.self.invariant.orgs_count) in
    let at : slice_get numbers p ≡ Some number = slice_get-get_or numbers p number within ∙ ap Some (sym c.index-number.ensures) in
    let (org, found, is) = c.self.invariant.orgs_are p number at in
    let read : slice_get orgs number ≡ Some here = slice_get-get_or orgs number here (slice_get_within orgs number org found) ∙ ap Some (sym c.index.ensures) in
    let own : org ≡ here = some_same org here (sym found ∙ read) in
    let S : List Standing → Type 0 = ListsOrg c.args.self.now p in
    subst S (sym c.of.ensures.statements) (subst S (sym c.as_slice-org.ensures.value) (subst W c.self.view_is (subst O own is.lists)))

pub returns-clause-own : goal.returns-clause-own
returns-clause-own c =
    let p = c.args.p in
    let lists = c.self.inside.requesters.items in
    let here = c.index-2.result.now in
    let N : WorldValue → Type 0 = λ w. p < length w.principals in
    let W : WorldValue → Type 0 = λ w. ListsRequester w p c.as_slice-own.result.now in
    let L : List Standing → Type 0 = ListsRequester c.self.inside.world.now p in
    let there = subst N (sym c.self.view_is) c.requires in
    let within : p < length lists = omega (arith, there, c.self.invariant.requesters_count) in
    let at : slice_get lists p ≡ Some here = slice_get-get_or lists p here within ∙ ap Some (sym c.index-2.ensures) in
    let S : List Standing → Type 0 = ListsRequester c.args.self.now p in
    subst S (sym c.of-2.ensures.statements) (subst W c.self.view_is (subst L (sym c.as_slice-own.ensures.value) (c.self.invariant.requesters_are p here at)))

pub returns-clause-alikes : goal.returns-clause-alikes
returns-clause-alikes c = λ r other n kept also.
    let p = c.args.p in
    let world = c.self.inside.world.now in
    let rows = c.self.inside.rows.rows.items in
    let numbers = c.self.inside.orgs.numbers.items in
    let orgs = c.self.inside.orgs.orgs.items in
    let lists = c.self.inside.requesters.items in
    let number = c.index-number.result.now in
    let bound = c.index.result.now in
    let listed = c.index-2.result.now in
    let org = c.as_slice-org.result.now in
    let own = c.as_slice-own.result.now in
    let N : WorldValue → Type 0 = λ w. p < length w.principals in
    let there = subst N (sym c.self.view_is) c.requires in
    let within : p < length numbers = omega (arith, there, c.self.invariant.orgs_count) in
    let inside : p < length lists = omega (arith, there, c.self.invariant.requesters_count) in
    let at : slice_get numbers p ≡ Some number = slice_get-get_or numbers p number within ∙ ap Some (sym c.index-number.ensures) in
    let (it, found, is) = c.self.invariant.orgs_are p number at in
    let read : slice_get orgs number ≡ Some bound = slice_get-get_or orgs number bound (slice_get_within orgs number it found) ∙ ap Some (sym c.index.ensures) in
    let seen : slice_get lists p ≡ Some listed = slice_get-get_or lists p listed inside ∙ ap Some (sym c.index-2.ensures) in
    let first =
    if_some _ (λ list. IsListRows rows org list.now) c.list_at-org_rows.result
    (λ list at_list.
    let S : List ListRows → Type 0 = λ known. slice_get known number ≡ Some list.now in
    let T : List Standing → Type 0 = λ statements. IsListRows rows statements list.now in
    subst T (sym c.as_slice-org.ensures.value) (c.self.invariant.org_rows_are number bound list.now read (subst S c.as_slice.ensures.value at_list)))
    c.list_at-org_rows.ensures in
    let second =
    if_some _ (λ list. IsListRows rows own list.now) c.list_at-own_rows.result
    (λ list at_list.
    let S : List ListRows → Type 0 = λ known. slice_get known p ≡ Some list.now in
    let T : List Standing → Type 0 = λ statements. IsListRows rows statements list.now in
    subst T (sym c.as_slice-own.ensures.value) (c.self.invariant.requester_rows_are p listed list.now seen (subst S c.as_slice-2.ensures.value at_list)))
    c.list_at-own_rows.ensures in
    let (so, one) = c.numbers_where.ensures r n kept in
    let (_, two) = c.numbers_where.ensures other n also in
    let like =
    alike world rows org own c.self.inside.columns.numbers.items c.self.invariant.columns_are (c.are_told-told.ensures.one org rows first so)
    (c.are_told-told.ensures.other own rows second so) in
    let W : WorldValue → Type 0 = λ w. AreAlike w (map placed_value org ++ map placed_value own) c.self.inside.columns.numbers.items in
    let P : List Standing → Type 0 = λ xs. AreAlike c.args.self.now (map placed_value xs ++ map placed_value own) c.self.inside.columns.numbers.items in
    let Q : List Standing → Type 0 =
    λ ys. AreAlike c.args.self.now (map placed_value c.of.result.statements ++ map placed_value ys) c.self.inside.columns.numbers.items in
    subst Q (sym c.of-2.ensures.statements) (subst P (sym c.of.ensures.statements) (subst W c.self.view_is like)) r other n one two
