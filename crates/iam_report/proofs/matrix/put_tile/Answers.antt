use Rattle.std.proofs.Common.{List, OnErr, ◌++◌, subst}
use Rattle.iam_row.specs.Piece.{rows_text}
use Rattle.iam_report.specs.Streams.{AppendsBeginning}
use Rattle.iam_row.specs.declared.tail.Tail.{Tail}
use Rattle.iam_report.proofs.matrix.put_tile.Goals as goal

pub returns-clause-err : goal.returns-clause-err
returns-clause-err g c =
    let P : List Tail → Type 0 = λ all.
    OnErr c.put_rows.result ((more : List Tail) → AppendsBeginning (g.W.Write.contents c.args.writer.now) (g.W.Write.contents c.put_rows.new.writer)
    ((c.args.kept.now.items ++ c.args.block.now) ++ rows_text c.args.quoted.now c.args.at.now (all ++ more))) in
    subst P c.parts.ensures.rows c.put_rows.ensures.err
