use Rattle.std.proofs.Common.{◌≡◌, ◌++◌, ◌+◌, List, ℕ, ap, ◌∙◌, sym, subst, arith}
use Rattle.std.proofs.lemmas.Result.{MatchResult-from_err}
use Rattle.iam_report.specs.Code.Buffer.{Passes}
use Rattle.iam_tiles.specs.Code.Numbered.{no_tail}
use Rattle.iam_report.specs.Streams.{AppendsBeginning}
use Rattle.iam_report.proofs.Buffered.{texts_fail, texts_more}
use Rattle.iam_row.specs.declared.tail.Tail.{Tail}
use Rattle.iam_changes.specs.Code.Kept.{row_at}
use Rattle.iam_changes.specs.Code.Pieces.{row_text}
use Rattle.iam_changes.proofs.Written.{behind_row}
use Rattle.iam_changes.proofs.text.put_part.Goals as goal

pub returns-in_err-put_row-clause-err : goal.returns-in_err-put_row-clause-err
returns-in_err-put_row-clause-err g c =
    let p = c.args.pieces.now in
    let row = row_at c.args.part.now c.loop-i.i in
    let same : row_text p (c.cell-cell.result, c.tail.result.now) ≡ row_text p row =
    ap (λ cell. row_text p (cell, c.tail.result.now)) c.cell-cell.ensures.cell ∙ ap (λ (tail : Tail). row_text p (row.0, tail)) c.tail.ensures in
    let P : List ℕ → Type 0 = λ text. AppendsBeginning (g.W.Write.contents c.loop-i.writer) (g.W.Write.contents c.put_row.new.writer) (c.loop-i.kept.items ++ text) in
    MatchResult-from_err _ _ _ c.from_residual.ensures.0
    (λ _. texts_fail (row_text p) c.args.part.now.rows c.loop-i.i (0, no_tail) _ _ _ _ _ (omega (arith, c.loop-i-test.true, c.len-i-end.ensures)) c.loop-i.invariant.rows
    (subst P same c.in_err-put_row.ensures.err))

pub loop-i-preserved : goal.loop-i-preserved
loop-i-preserved g c =
    let p = c.args.pieces.now in
    let row = row_at c.args.part.now c.loop-i.i in
    let same : row_text p (c.cell-cell.result, c.tail.result.now) ≡ row_text p row =
    ap (λ cell. row_text p (cell, c.tail.result.now)) c.cell-cell.ensures.cell ∙ ap (λ (tail : Tail). row_text p (row.0, tail)) c.tail.ensures in
    let P : List ℕ → Type 0 = λ text. Passes (g.W.Write.contents c.loop-i.writer) (g.W.Write.contents c.put_row.new.writer) c.loop-i.kept.items c.put_row.new.kept.items text in
    record {
      rows =
          texts_more (row_text p) c.args.part.now.rows c.loop-i.i (0, no_tail) _ _ _ _ _ _ (omega (arith, c.loop-i-test.true, c.len-i-end.ensures)) c.loop-i.invariant.rows
          (subst P same c.in_ok-put_row.ensures.ok);
      behind = ap (λ n. n + 1) c.cell-cell.ensures.cell ∙ sym (behind_row c.args.part.now c.loop-i.i (c.loop-i.i + 1) (omega arith));
    }
