use Rattle.std.proofs.Common.{arith}
use Rattle.iam_open.specs.Asks.{operand_keys}
use Rattle.iam_open.proofs.AskLemmas.{added_more, added_taken}
use Rattle.iam_open.proofs.hangs.add_values.Goals as goal

pub loop-value-preserved : goal.loop-value-preserved
loop-value-preserved c =
    added_more operand_keys c.args.known.now c.args.keys.now.items c.loop-value.keys.items c.add_value.new.keys.items c.args.values.now c.loop-value.value-index
    c.value-item.result c.loop-value-test.true c.value-item.is c.loop-value.invariant c.in_ok-add_value.ensures

pub returns : goal.returns
returns c =
    added_taken operand_keys c.args.known.now c.args.keys.now.items c.loop-value.keys.items c.args.values.now c.loop-value.value-index
    (omega (arith, c.loop-value-test.false)) c.loop-value.invariant
