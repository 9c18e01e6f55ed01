use Rattle.std.proofs.Common.{arith}
use Rattle.iam_open.specs.Asks.{text_keys}
use Rattle.iam_open.proofs.AskLemmas.{added_more, added_taken}
use Rattle.iam_open.proofs.hangs.add_texts.Goals as goal

pub loop-text-preserved : goal.loop-text-preserved
loop-text-preserved c =
    added_more text_keys c.args.known.now c.args.keys.now.items c.loop-text.keys.items c.add_text.new.keys.items c.args.texts.now c.loop-text.text-index
    c.text-item.result c.loop-text-test.true c.text-item.is c.loop-text.invariant c.in_ok-add_text.ensures

pub returns : goal.returns
returns c =
    added_taken text_keys c.args.known.now c.args.keys.now.items c.loop-text.keys.items c.args.texts.now c.loop-text.text-index
    (omega (arith, c.loop-text-test.false)) c.loop-text.invariant
