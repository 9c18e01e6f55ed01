use Rattle.std.proofs.Common.{All, List, arith, subst, sym, take}
use Rattle.iam_condition.specs.declared.operand.Operand.{Operand}
use Rattle.iam_match.proofs.StatementLemmas.{all_taken}
use Rattle.iam_open.specs.Code.Unmet.{IsUnmet}
use Rattle.iam_open.proofs.ListLemmas.{push_all, taken_more}
use Rattle.iam_open.proofs.unmet.are_unmet.Goals as goal

pub loop-value-preserved : goal.loop-value-preserved
loop-value-preserved c =
    let P = IsUnmet c.args.known.now c.args.context.now in
    let values = c.args.values.now in
    let i = c.loop-value.value-index in
    subst (λ (xs : List Operand). All P xs) (sym (taken_more values i c.value-item.result c.loop-value-test.true c.value-item.is))
    (push_all P (take i values) c.value-item.result c.loop-value.invariant (c.in_ok-is_value_unmet.ensures c.if-not-branch.false))

pub returns : goal.returns
returns c = λ yes.
    all_taken (IsUnmet c.args.known.now c.args.context.now) c.args.values.now c.loop-value.value-index
    (omega (arith, c.loop-value-test.false)) c.loop-value.invariant
