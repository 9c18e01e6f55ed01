use Rattle.std.proofs.lemmas.Result.{IfOk-weaker}
use Rattle.iam_open.proofs.UnmetLemmas.{unmet_holds}
use Rattle.iam_open.proofs.unmet.is_unmet.Goals as goal

pub returns : goal.returns
returns c =
    IfOk-weaker c.are_unmet.result _ _
    (λ yes all is other agree.
    unmet_holds c.args.known.now c.args.context.now other c.args.entry.now
    (rw c.operator.ensures at (c.asks_for_one.ensures c.if-not-asks_for_one.false)) (rw c.values.ensures at (all is)) agree)
    c.are_unmet.ensures
