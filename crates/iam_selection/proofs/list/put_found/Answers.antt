use Rattle.std.proofs.Common.{◌≡◌, ◌++◌, List, ℕ, get_or, ap, ◌∙◌, subst, arith}
use Rattle.std.proofs.lemmas.Result.{MatchResult-from_err}
use Rattle.iam_report.specs.Code.Buffer.{Passes}
use Rattle.iam_report.specs.Code.Line.{row_behind}
use Rattle.iam_report.specs.Streams.{AppendsBeginning}
use Rattle.iam_report.proofs.Buffered.{texts_fail, texts_more}
use Rattle.iam_row.specs.declared.position.Position.{Position}
use Rattle.iam_row.specs.declared.tail.Tail.{Tail}
use Rattle.iam_report.specs.Code.Place.{comma_of, position_in}
use Rattle.iam_selection.specs.Code.Listing.{no_row, row_text}
use Rattle.iam_selection.proofs.list.put_found.Goals as goal

pub returns-in_err-put_pieces-clause-err : goal.returns-in_err-put_pieces-clause-err
returns-in_err-put_pieces-clause-err g c =
    let q = c.args.quoted.now in
    let lead = c.args.lead in
    let row = get_or c.args.found.now c.loop-i.i no_row in
    let same : row_behind q c.comma_of-comma.result.now c.position_in-at.result c.tail.result.now ≡ row_text q lead row =
    ap (λ comma. row_behind q comma c.position_in-at.result c.tail.result.now) c.comma_of-comma.ensures
    ∙ ap (λ (at : Position). row_behind q (comma_of lead c.cell-cell.result) at c.tail.result.now) c.position_in-at.ensures
    ∙ ap (λ cell. row_behind q (comma_of lead cell) (position_in q cell) c.tail.result.now) c.cell-cell.ensures
    ∙ ap (λ (tail : Tail). row_behind q (comma_of lead row.cell) (position_in q row.cell) tail) c.tail.ensures in
    let P : List ℕ → Type 0 = λ text. AppendsBeginning (g.W.Write.contents c.loop-i.writer) (g.W.Write.contents c.put_pieces.new.writer) (c.loop-i.kept.items ++ text) in
    MatchResult-from_err _ _ _ c.from_residual.ensures.0
    (λ _. texts_fail (row_text q lead) c.args.found.now c.loop-i.i no_row _ _ _ _ _ (omega (arith, c.loop-i-test.true, c.len-i-end.ensures)) c.loop-i.invariant
    (subst P same c.in_err-put_pieces.ensures.err))

pub loop-i-preserved : goal.loop-i-preserved
loop-i-preserved g c =
    let q = c.args.quoted.now in
    let lead = c.args.lead in
    let row = get_or c.args.found.now c.loop-i.i no_row in
    let same : row_behind q c.comma_of-comma.result.now c.position_in-at.result c.tail.result.now ≡ row_text q lead row =
    ap (λ comma. row_behind q comma c.position_in-at.result c.tail.result.now) c.comma_of-comma.ensures
    ∙ ap (λ (at : Position). row_behind q (comma_of lead c.cell-cell.result) at c.tail.result.now) c.position_in-at.ensures
    ∙ ap (λ cell. row_behind q (comma_of lead cell) (position_in q cell) c.tail.result.now) c.cell-cell.ensures
    ∙ ap (λ (tail : Tail). row_behind q (comma_of lead row.cell) (position_in q row.cell) tail) c.tail.ensures in
    let P : List ℕ → Type 0 = λ text. Passes (g.W.Write.contents c.loop-i.writer) (g.W.Write.contents c.put_pieces.new.writer) c.loop-i.kept.items c.put_pieces.new.kept.items text in
    texts_more (row_text q lead) c.args.found.now c.loop-i.i no_row _ _ _ _ _ _ (omega (arith, c.loop-i-test.true, c.len-i-end.ensures)) c.loop-i.invariant
    (subst P same c.in_ok-put_pieces.ensures.ok)
