use Rattle.std.proofs.Common.{arith}
use Rattle.std.specs.Mem.Slots.{slots_items}
use Rattle.iam_work.proofs.Closing.{bit_read, set_more, bit_within}
use Rattle.iam_work.proofs.close.count_marked.Goals as goal

pub overflow_add-marked : goal.overflow_add-marked
overflow_add-marked c =
    let words = slots_items c.args.closed.now.words in
    let grain = c.loop-grain.grain in
    let bit = bit_read words grain c.word.result c.word.ensures in
    let small = bit_within words grain in
    let few = c.loop-grain.invariant.few in
    let many = c.requires.few in
    let test = c.loop-grain-test.true in
    omega arith

pub loop-grain-preserved : goal.loop-grain-preserved
loop-grain-preserved c =
    let words = slots_items c.args.closed.now.words in
    let grain = c.loop-grain.grain in
    let bit = bit_read words grain c.word.result c.word.ensures in
    let small = bit_within words grain in
    let few = c.loop-grain.invariant.few in
    let counted = c.loop-grain.invariant.counted in
    let more = set_more grain words in
    record { few = omega arith; counted = omega arith }
