use Rattle.iam_glob.proofs.CompiledLemmas.{cut_piece}
use Rattle.iam_glob.proofs.compiled.way_behind.Goals as goal

pub loop-pieces-preserved : goal.loop-pieces-preserved
loop-pieces-preserved c =
    let next = c.in-Some-eq42-default.next.now in
    rw c.in_ok-push-in-Some-eq42-default.ensures.items
    (cut_piece c.loop-pieces.pieces.items c.cut_wildcard.result.0 c.args.behind.now c.loop-pieces.left.now c.cut_wildcard.result.1.now next _
    c.loop-pieces.invariant c.cut_wildcard.ensures.joined c.in-Some-eq42-default.ensures.cases.0 c.in-Some-eq42-default.field-0-0-test c.cut_wildcard.ensures.given)
