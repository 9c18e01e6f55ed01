use Rattle.std.proofs.Common.{refl}
use Rattle.iam_asked.proofs.BeforeLemmas.{first_unsaid, known_at, lines_more}
use Rattle.iam_asked.proofs.before.lines_before.Goals as goal

pub add_before-requires-clause-known : goal.add_before-requires-clause-known
add_before-requires-clause-known c =
    known_at c.args.after.now c.args.lines.now c.loop-i.i c.index-lines-i.result c.requires.known c.loop-i-test.true c.index-lines-i.is

pub returns-in-Err-clause-fault : goal.returns-in-Err-clause-fault
returns-in-Err-clause-fault c = λ other.
    first_unsaid c.args.before.now c.args.after.now c.args.lines.now c.loop-i.i c.index-lines-i.result c.loop-i.all.items _ c.loop-i.invariant
    c.loop-i-test.true c.index-lines-i.is refl (c.in-Err.ensures.fault other)

pub loop-i-preserved : goal.loop-i-preserved
loop-i-preserved c =
    let (was, one, added) = c.in_default-add_before.ensures.ok in
    lines_more c.args.before.now c.args.after.now c.args.lines.now c.loop-i.i c.index-lines-i.result was c.loop-i.all.items c.add_before.new.all.items
    c.loop-i.invariant c.loop-i-test.true c.index-lines-i.is one added
