use Rattle.std.proofs.Common.{arith}
use Rattle.std.proofs.lemmas.Result.{MatchResult-from_err}
use Rattle.iam_ask.proofs.Written.{count_more, count_within, tile_fails, tile_more}
use Rattle.iam_ask.proofs.text.put_tiles.Goals as goal

pub put_tile-requires : goal.put_tile-requires
put_tile-requires g c =
    let fits = count_within c.args.tiles.now c.loop-tile.tile-index c.tile-item.result c.loop-tile-test.true c.tile-item.is in
    omega (arith, fits, c.loop-tile.invariant.from, c.requires)

pub returns-in_err-put_tile-clause-err : goal.returns-in_err-put_tile-clause-err
returns-in_err-put_tile-clause-err g c =
    MatchResult-from_err _ _ _ c.from_residual.ensures.0
    (λ _. tile_fails c.args.quoted.now c.args.requests.now.asked c.args.tiles.now c.loop-tile.tile-index c.loop-tile.from c.tile-item.result _ _ _ _ _ c.loop-tile-test.true
    c.tile-item.is c.loop-tile.invariant.from c.loop-tile.invariant.passes c.in_err-put_tile.ensures.err)

pub overflow_add-from : goal.overflow_add-from
overflow_add-from g c =
    let fits = count_within c.args.tiles.now c.loop-tile.tile-index c.tile-item.result c.loop-tile-test.true c.tile-item.is in
    omega (arith, fits, c.loop-tile.invariant.from, c.requires, c.len.ensures, c.count-count.ensures.value, c.count-count.ensures.few)

pub loop-tile-preserved : goal.loop-tile-preserved
loop-tile-preserved g c =
    let more = count_more c.args.tiles.now c.loop-tile.tile-index c.tile-item.result c.loop-tile-test.true c.tile-item.is in record {
      from = omega (arith, more, c.loop-tile.invariant.from, c.len.ensures);
      passes =
          tile_more c.args.quoted.now c.args.requests.now.asked c.args.tiles.now c.loop-tile.tile-index c.loop-tile.from c.tile-item.result _ _ _ _ _ _
          c.loop-tile-test.true c.tile-item.is c.loop-tile.invariant.from c.loop-tile.invariant.passes c.in_ok-put_tile.ensures.ok;
    }
