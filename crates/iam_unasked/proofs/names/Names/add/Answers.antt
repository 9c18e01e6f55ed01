use Rattle.std.proofs.Common.{◌++◌, append_assoc, take}
use Rattle.iam_context.proofs.KeyLemmas.{keys_more_of}
use Rattle.iam_context.specs.Context.{keys_of}
use Rattle.iam_unasked.proofs.names.Names.add.Goals as goal

pub loop-key-preserved : goal.loop-key-preserved
loop-key-preserved c = λ keys has.
    let xs = c.args.part.now.items in
    let i = c.loop-key.key-index in
    rw (keys_more_of xs _ i c.loop-key-item.result c.deref-key-items.ensures.value c.loop-key-test.true c.loop-key-item.is, ← append_assoc, ← c.as_str.ensures)
    (c.in_ok-insert.ensures (keys ++ keys_of (take i xs)) (c.loop-key.invariant keys has))
