use Rattle.std.proofs.Common.{Bool, IfOk, sym, subst}
use Rattle.std.proofs.lemmas.Result.{IfOk-weaker}
use Rattle.iam_matrix.specs.Code.Tiles.{AreTailsOf}
use Rattle.iam_matrix.proofs.Tails.{tails_of}
use Rattle.iam_matrix.proofs.rows.tile_of.Goals as goal

pub returns-then-has_rows-clause-tails : goal.returns-then-has_rows-clause-tails
returns-then-has_rows-clause-tails c =
    let tile = c.args.tile in
    let B : Bool → Type 0 = λ b. IfOk c.tile.result (λ tails. AreTailsOf c.args.format b c.args.engine.now.world tile.from tile.count tails) in
    subst B (sym c.if-brief.true)
    (IfOk-weaker c.tile.result _ _ (λ tails is. (c.say_all.new.said, c.in_ok-say_all.ensures.said, is)) c.tile.ensures)

pub returns-clause-tails : goal.returns-clause-tails
returns-clause-tails c =
    let tile = c.args.tile in
    let verdicts = c.say_all-2.new.said.entries in
    IfOk-weaker c.tile-2.result _ _
    (λ tails. tails_of c.args.format c.args.brief c.args.engine.now.world tile.from tile.count verdicts tails c.in_ok-say_all-2.ensures.said) c.tile-2.ensures

pub say_all-requires-2-clause-fits : goal.say_all-requires-2-clause-fits
say_all-requires-2-clause-fits c = c.in_ok-verdicts.ensures.leads c.args.engine.now
