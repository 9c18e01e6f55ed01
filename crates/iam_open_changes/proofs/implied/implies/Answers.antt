use Rattle.std.proofs.Common.{rules}
use Rattle.std.proofs.lemmas.Result.{IfOk-weaker}
use Rattle.iam_open_changes.proofs.ImpliedLemmas.{implied}
use Rattle.iam_open_changes.proofs.implied.implies.Goals as goal

pub returns : goal.returns
returns c =
    IfOk-weaker c.are_within_by.result _ _
    (λ yes within is.
    implied c.args.one.now c.args.other.now (search rules) (search rules)
    (rw (c.operator-3.ensures, c.values.ensures, c.values-2.ensures) at (within is)))
    c.are_within_by.ensures
