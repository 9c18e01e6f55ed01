use Rattle.std.proofs.Common.{◌≡◌, ◌++◌, ◌∙◌, [], List, None, ap, arith, get_or, map, sym, take}
use Rattle.std.proofs.lemmas.List.{take_all}
use Rattle.std.proofs.lemmas.Result.{IfOk-weaker}
use Rattle.iam_row.specs.Code.ChangeParts.{made_of}
use Rattle.iam_every_changes.specs.Changes.{changed_of}
use Rattle.iam_every_changes.specs.Code.Told.{lists_of}
use Rattle.iam_every_changes.specs.Compared.{who_of}
use Rattle.iam_every_changes.specs.Report.{row_at, rows_in}
use Rattle.iam_every_changes.specs.declared.compared.Who.{Who}
use Rattle.iam_every_changes.specs.declared.looked.Changed.{Changed}
use Rattle.iam_every_changes.specs.declared.looked.Looked.{Looked}
use Rattle.iam_every_changes.proofs.ReportLemmas.{rows_more}
use Rattle.iam_every_changes.proofs.report.text_of.Goals as goal

pub loop-i-preserved : goal.loop-i-preserved
loop-i-preserved c =
    let nobody : Who = record { text = record { ref_ptr = (0, 0); now = [] }; before = None; after = None } in
    let whos = c.args.whos.now in
    let all = c.args.all.now in
    let i = c.loop-i.i in
    let rows = rows_in (lists_of (map who_of (take i whos)) (take i all)) in
    let text = (get_or whos i nobody).text.now in
    c.in_ok-add_rows.ensures c.args.format c.args.brief rows c.loop-i.invariant
    ∙ ap (λ (l : List Changed). made_of c.args.format c.args.brief (rows ++ map (row_at text) (map changed_of l))) c.as_slice.ensures.value
    ∙ ap (λ (x : Looked). made_of c.args.format c.args.brief (rows ++ map (row_at text) (map changed_of x.rows.items))) (sym c.index-all-i.is)
    ∙ ap (made_of c.args.format c.args.brief) (rows_more whos all i nobody c.index-all-i.result c.requires c.loop-i-test.true c.index-all-i.is)

pub returns : goal.returns
returns c =
    let whos = c.args.whos.now in
    let all = c.args.all.now in
    let i = c.loop-i.i in
    let those = take_all i whos c.loop-i-test.false in
    let kept = take_all i all (let e = c.requires in let past = c.loop-i-test.false in omega (arith, e, past)) in
    let made : c.loop-i.report ≡ made_of c.args.format c.args.brief (rows_in (lists_of (map who_of whos) all)) =
    c.loop-i.invariant ∙ ap (λ (l : List Who). made_of c.args.format c.args.brief (rows_in (lists_of (map who_of l) (take i all)))) those
    ∙ ap (λ (l : List Looked). made_of c.args.format c.args.brief (rows_in (lists_of (map who_of whos) l))) kept in
    IfOk-weaker c.finish.result _ _ (λ text is. is c.args.format c.args.brief (rows_in (lists_of (map who_of whos) all)) made) c.finish.ensures
