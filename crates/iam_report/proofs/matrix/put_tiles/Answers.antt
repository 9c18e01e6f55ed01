use Rattle.std.proofs.Common.{List, [], ℕ, ◌+◌, ◌≤◌, ◌++◌, ◌∙◌, length, ap, append-nil, arith, subst, sym}
use Rattle.std.proofs.lemmas.Result.{MatchResult-from_err, on_err_weaker, on_ok_weaker}
use Rattle.iam_report.specs.Code.Buffer.{IsWithin, Passes, PutsRows}
use Rattle.iam_report.specs.Streams.{AppendsBeginning}
use Rattle.iam_row.specs.declared.position.Position.{Position}
use Rattle.iam_row.specs.Piece.{first_position}
use Rattle.iam_report.proofs.Buffered.{count_next, few_at, puts_none, tile_fails, tile_more, tiles_all}
use Rattle.iam_report.proofs.Runs.{handed_fails, passes_handed}
use Rattle.iam_report.proofs.matrix.put_tiles.Goals as goal

pub loop-tile-init : goal.loop-tile-init
loop-tile-init g c =
    let quoted = c.args.quoted.now in
    let k = c.args.kept.now.items in
    let writer = g.W.Write.contents c.args.writer.now in
    let none : IsWithin first_position = record { principal = omega arith; action = omega arith; resource = omega arith } in
    record {
      puts =
          subst (λ (p : Position). PutsRows quoted [] first_position p writer writer k (k ++ c.new-block.result)) (sym c.first-at.ensures)
          (subst (λ (l : List ℕ). PutsRows quoted [] first_position first_position writer writer k l) (sym (ap (λ (b : List ℕ). k ++ b) c.new-block.ensures ∙ append-nil k))
          (puts_none quoted first_position writer k));
      within = subst IsWithin (sym c.first-at.ensures) none;
      cell = ap (λ (p : Position). p.cell) c.first-at.ensures;
    }

pub put_tile-requires-clause-few : goal.put_tile-requires-clause-few
put_tile-requires-clause-few g c =
    let few : c.loop-tile.at.cell + length c.tile-item.result ≤ 16777216 =
    omega (arith, few_at c.args.tiles.now c.loop-tile.tile-index c.tile-item.result c.loop-tile-test.true c.tile-item.is, c.loop-tile.invariant.cell, c.requires) in
    few

pub returns-in_err-put_tile-clause-err : goal.returns-in_err-put_tile-clause-err
returns-in_err-put_tile-clause-err g c =
    MatchResult-from_err _ _ _ c.from_residual.ensures.0
    (λ _. tile_fails c.args.quoted.now c.args.tiles.now c.loop-tile.tile-index c.tile-item.result first_position c.loop-tile.at _ _ _ _ _ c.loop-tile-test.true c.tile-item.is
    c.loop-tile.invariant.puts c.in_err-put_tile.ensures.err)

pub loop-tile-preserved : goal.loop-tile-preserved
loop-tile-preserved g c =
    let tiles = c.args.tiles.now in
    let i = c.loop-tile.tile-index in
    let tile = c.tile-item.result in
    record {
      puts =
          tile_more c.args.quoted.now tiles i tile first_position c.loop-tile.at c.put_tile.new.at _ _ _ _ _ _ c.loop-tile-test.true c.tile-item.is
          c.loop-tile.invariant.puts c.in_ok-put_tile.ensures.ok;
      within = c.in_ok-put_tile.ensures.within;
      cell = omega (arith, c.in_ok-put_tile.ensures.cell, c.loop-tile.invariant.cell, count_next tiles i tile c.loop-tile-test.true c.tile-item.is);
    }

pub returns-clause-err : goal.returns-clause-err
returns-clause-err g c =
    let loop = c.loop-tile in
    on_err_weaker c.put_bytes.result
    (λ fails. handed_fails _ _ _ c.args.kept.now.items (loop.kept.items ++ loop.block) _
    (tiles_all c.args.quoted.now c.args.tiles.now loop.tile-index first_position loop.at _ _ _ _ c.loop-tile-test.false loop.invariant.puts)
    (subst (λ (t : List ℕ). AppendsBeginning (g.W.Write.contents loop.writer) (g.W.Write.contents c.put_bytes.new.writer) (loop.kept.items ++ t)) c.text.ensures fails))
    c.put_bytes.ensures.err

pub returns-clause-ok : goal.returns-clause-ok
returns-clause-ok g c =
    let loop = c.loop-tile in
    on_ok_weaker c.put_bytes.result
    (λ put. passes_handed _ _ _ c.args.kept.now.items loop.kept.items c.put_bytes.new.kept.items _ loop.block
    (tiles_all c.args.quoted.now c.args.tiles.now loop.tile-index first_position loop.at _ _ _ _ c.loop-tile-test.false loop.invariant.puts)
    (subst (λ (t : List ℕ). Passes (g.W.Write.contents loop.writer) (g.W.Write.contents c.put_bytes.new.writer) loop.kept.items c.put_bytes.new.kept.items t) c.text.ensures put))
    c.put_bytes.ensures.ok
