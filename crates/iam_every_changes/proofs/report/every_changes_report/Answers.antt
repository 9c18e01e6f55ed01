use Rattle.std.proofs.Common.{◌≡◌, ◌≤◌, ◌∙◌, ℕ, List, IsTrue, ap, arith, is_none, length, map, subst}
use Rattle.std.proofs.lemmas.List.{length-map}
use Rattle.std.specs.List.{list_any}
use Rattle.iam_row.specs.Changes.{changes_text}
use Rattle.iam_every.proofs.ReportLemmas.{not_few}
use Rattle.iam_every_changes.specs.Code.Told.{IsLookedAt, has_kept, kept_in, lists_of}
use Rattle.iam_every_changes.specs.Compared.{compared_of, who_of}
use Rattle.iam_every_changes.specs.Report.{is_gained, is_lost, rows_in}
use Rattle.iam_every_changes.specs.declared.looked.Looked.{Looked}
use Rattle.iam_every_changes.proofs.ReportLemmas.{counted, listed, told_is, zipped_long}
use Rattle.iam_every_changes.proofs.report.every_changes_report.Goals as goal

pub returns-then-not-are_few-clause-many : goal.returns-then-not-are_few-clause-many
returns-then-not-are_few-clause-many g c = λ _.
    let all = c.in_ok-all.all.items in
    let whos = map who_of c.args.whos.now in
    let T : List Looked → Type 0 = λ kept. length (kept_in kept) ≤ 16777216 → IsTrue c.are_few.result in
    let says = subst T c.as_slice.ensures.value c.are_few.ensures.1 in
    let compared = compared_of c.args.compared in
    let long = zipped_long (IsLookedAt compared) whos all c.in_ok-all.ensures in
    let many = not_few (length (kept_in all)) c.are_few.result c.if-not-are_few.true says in
    (lists_of whos all, listed compared whos all c.in_ok-all.ensures, omega (arith, many, counted whos all long))

pub text_of-requires : goal.text_of-requires
text_of-requires g c =
    ap (λ (kept : List Looked). length kept) c.as_slice-3.ensures.value
    ∙ zipped_long (IsLookedAt (compared_of c.args.compared)) (map who_of c.args.whos.now) c.in_ok-all.all.items c.in_ok-all.ensures
    ∙ length-map c.args.whos.now who_of

pub returns-clause-ok : goal.returns-clause-ok
returns-clause-ok g c =
    let all = c.in_ok-all.all.items in
    let whos = map who_of c.args.whos.now in
    let compared = compared_of c.args.compared in
    let long = zipped_long (IsLookedAt compared) whos all c.in_ok-all.ensures in
    let F : List Looked → Type 0 = λ kept. length (kept_in kept) ≤ 16777216 in
    let few = subst F c.as_slice.ensures.value (c.are_few.ensures.0 c.if-not-are_few.false) in
    let text : List Looked → List ℕ = λ kept. changes_text c.args.format c.args.brief (rows_in (lists_of whos kept)) in
    let A : List Looked → Type 0 = λ kept. (c.told_of-told.result.some ≡ list_any (λ looked. looked.some) kept)
    × (c.told_of-told.result.gained ≡ list_any (has_kept is_gained) kept) × (c.told_of-told.result.lost ≡ list_any (has_kept is_lost) kept)
    × (c.told_of-told.result.unshown ≡ list_any (has_kept is_none) kept) in
    let told = c.told_of-told.ensures in
    let (some, gained, lost, unshown) = subst A c.as_slice-2.ensures.value (told.some, told.gained, told.lost, told.unshown) in
    record {
      lists = lists_of whos all;
      are = listed compared whos all c.in_ok-all.ensures;
      few = omega (arith, few, counted whos all long);
      is = c.in_ok-text.ensures ∙ ap text c.as_slice-3.ensures.value;
      tells = told_is whos all c.told_of-told.result long some gained lost unshown;
    }
