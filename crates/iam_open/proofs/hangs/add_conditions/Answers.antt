use Rattle.std.proofs.Common.{arith}
use Rattle.iam_open.specs.Asks.{entry_keys}
use Rattle.iam_open.proofs.AskLemmas.{added_more, added_taken}
use Rattle.iam_open.proofs.hangs.add_conditions.Goals as goal

pub loop-entry-preserved : goal.loop-entry-preserved
loop-entry-preserved c =
    added_more entry_keys c.args.known.now c.args.keys.now.items c.loop-entry.keys.items c.add_entry.new.keys.items c.args.entries.now c.loop-entry.entry-index
    c.entry-item.result c.loop-entry-test.true c.entry-item.is c.loop-entry.invariant c.in_ok-add_entry.ensures

pub returns : goal.returns
returns c =
    added_taken entry_keys c.args.known.now c.args.keys.now.items c.loop-entry.keys.items c.args.entries.now c.loop-entry.entry-index
    (omega (arith, c.loop-entry-test.false)) c.loop-entry.invariant
