use Rattle.std.proofs.Common.{arith}
use Rattle.iam_decision.specs.Code.Scan.{placed_value}
use Rattle.iam_decision.specs.declared.scan.Standing.{Standing}
use Rattle.iam_match.proofs.StatementLemmas.{all_taken, one_more}
use Rattle.iam_living.specs.Asker.{AsksForNone}
use Rattle.iam_living.proofs.lists.ask_for_none.Goals as goal

pub loop-standing-preserved : goal.loop-standing-preserved
loop-standing-preserved c =
    let P : Standing → Type 0 = λ s. AsksForNone c.args.index.now (placed_value s) in
    one_more P c.args.statements.now c.loop-standing.standing-index c.standing-item.result c.loop-standing-test.true c.standing-item.is
    c.loop-standing.invariant (c.asks_for_none.ensures c.if-not-asks_for_none.false)

pub returns : goal.returns
returns c = λ yes.
    let P : Standing → Type 0 = λ s. AsksForNone c.args.index.now (placed_value s) in
    all_taken P c.args.statements.now c.loop-standing.standing-index (omega (arith, c.loop-standing-test.false)) c.loop-standing.invariant
