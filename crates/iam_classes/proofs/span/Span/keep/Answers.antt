use Rattle.iam_classes.proofs.SpanLemmas.{decided_next}
use Rattle.iam_classes.proofs.span.Span.keep.Goals as goal

pub returns-in-Ok : goal.returns-in-Ok
returns-in-Ok c = λ world right is.
    let span = c.turn_to.new.self in
    let at = c.turn_to.ensures in
    decided_next world c.args.p c.args.number c.args.r span c.push.new.self.items c.args.decided at.principal at.number at.next c.in-Ok.ensures.items
    (at.right world right) is
