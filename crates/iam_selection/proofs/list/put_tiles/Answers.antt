use Rattle.std.proofs.Common.{◌++◌, List, ℕ, ap, ◌∙◌, subst}
use Rattle.std.specs.List.{flat_map}
use Rattle.std.proofs.lemmas.List.{take_all}
use Rattle.std.proofs.lemmas.Result.{MatchResult-from_err}
use Rattle.iam_report.specs.Code.Buffer.{Passes}
use Rattle.iam_report.specs.Streams.{AppendsBeginning}
use Rattle.iam_report.proofs.Buffered.{texts_fail, texts_more}
use Rattle.iam_selection.specs.Code.Listing.{RowValue, rows_text}
use Rattle.iam_selection.proofs.Written.{tiles_text}
use Rattle.iam_selection.proofs.list.put_tiles.Goals as goal

pub returns-in_err-put_found-clause-err : goal.returns-in_err-put_found-clause-err
returns-in_err-put_found-clause-err g c =
    let text = rows_text c.args.quoted.now c.args.lead in
    let P : List ℕ → Type 0 = λ all. AppendsBeginning (g.W.Write.contents c.args.writer.now) (g.W.Write.contents c.put_found.new.writer) (c.args.kept.now.items ++ all) in
    let Q : List RowValue → Type 0 = λ tile.
    AppendsBeginning (g.W.Write.contents c.loop-tile.writer) (g.W.Write.contents c.put_found.new.writer) (c.loop-tile.kept.items ++ text tile) in
    MatchResult-from_err _ _ _ c.from_residual.ensures.0
    (λ _. subst P (tiles_text c.args.quoted.now c.args.lead c.args.tiles.now)
    (texts_fail text c.args.tiles.now c.loop-tile.tile-index c.tile-item.result _ _ _ _ _ c.loop-tile-test.true c.loop-tile.invariant
    (subst Q c.tile-item.is c.in_err-put_found.ensures.err)))

pub loop-tile-preserved : goal.loop-tile-preserved
loop-tile-preserved g c =
    let text = rows_text c.args.quoted.now c.args.lead in
    let Q : List RowValue → Type 0 = λ tile.
    Passes (g.W.Write.contents c.loop-tile.writer) (g.W.Write.contents c.put_found.new.writer) c.loop-tile.kept.items c.put_found.new.kept.items (text tile) in
    texts_more text c.args.tiles.now c.loop-tile.tile-index c.tile-item.result _ _ _ _ _ _ c.loop-tile-test.true c.loop-tile.invariant
    (subst Q c.tile-item.is c.in_ok-put_found.ensures.ok)

pub returns-clause-ok : goal.returns-clause-ok
returns-clause-ok g c =
    let text = rows_text c.args.quoted.now c.args.lead in
    let P : List ℕ → Type 0 = λ all.
    Passes (g.W.Write.contents c.args.writer.now) (g.W.Write.contents c.loop-tile.writer) c.args.kept.now.items c.loop-tile.kept.items all in
    subst P (ap (flat_map text) (take_all c.loop-tile.tile-index c.args.tiles.now c.loop-tile-test.false) ∙ tiles_text c.args.quoted.now c.args.lead c.args.tiles.now)
    c.loop-tile.invariant
