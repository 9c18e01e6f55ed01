use Rattle.std.proofs.Common.{◌++◌, ◌∙◌, List, ℕ, ap, refl, subst}
use Rattle.std.proofs.lemmas.Result.{on_err_weaker, on_ok_weaker}
use Rattle.std.specs.Io.KnownBytes.{Appends}
use Rattle.iam_report.specs.Code.Buffer.{Passes}
use Rattle.iam_report.specs.Code.Line.{tail_at}
use Rattle.iam_row.specs.Piece.{row_at}
use Rattle.iam_row.specs.declared.quoted.Quoted.{Quoted}
use Rattle.iam_row.specs.declared.tail.Tail.{Tail}
use Rattle.iam_report.proofs.Buffered.{written_second}
use Rattle.iam_report.proofs.Runs.{passes_behind}
use Rattle.iam_report.proofs.rows.put_row.Goals as goal

pub returns-clause-err : goal.returns-clause-err
returns-clause-err g c =
    let kept = c.args.kept.now.items in
    let line = c.put.new.self in
    let row : Quoted → List Tail → List ℕ = λ q tails. row_at q c.args.at (tail_at tails c.args.n) in
    on_err_weaker c.put_alone.result
    (written_second _ _ _ (kept ++ c.put.new.block) (kept ++ c.args.block.now) (c.write_both.new.kept.items ++ row line.quoted line.tails)
    (row c.args.line.now.quoted c.args.line.now.tails) (ap (λ (b : List ℕ). kept ++ b) (c.if-put.ensures.none refl))
    (ap (λ (l : List ℕ). l ++ row line.quoted line.tails) c.in_ok-write_both.ensures.kept ∙ ap (λ q. row q line.tails) c.put.ensures.quoted
    ∙ ap (row c.args.line.now.quoted) c.put.ensures.tails)
    c.in_ok-write_both.ensures.ok)
    c.put_alone.ensures.err

pub returns-clause-ok : goal.returns-clause-ok
returns-clause-ok g c =
    let kept = c.args.kept.now.items in
    let line = c.put.new.self in
    let rest = c.put_alone.new.kept.items ++ c.put_alone.new.block in
    let P : Quoted → List Tail → Type 0 = λ q tails.
    Passes (g.W.Write.contents c.write_both.new.writer) (g.W.Write.contents c.put_alone.new.writer) c.write_both.new.kept.items rest
    (row_at q c.args.at (tail_at tails c.args.n)) in
    on_ok_weaker c.put_alone.result
    (λ put. passes_behind _ _ _ (kept ++ c.args.block.now) c.write_both.new.kept.items rest _ c.in_ok-write_both.ensures.kept
    (subst (λ (b : List ℕ). Appends (g.W.Write.contents c.args.writer.now) (g.W.Write.contents c.write_both.new.writer) (kept ++ b)) (c.if-put.ensures.none refl)
    c.in_ok-write_both.ensures.ok)
    (subst (λ q. P q c.args.line.now.tails) c.put.ensures.quoted (subst (P line.quoted) c.put.ensures.tails put)))
    c.put_alone.ensures.ok
