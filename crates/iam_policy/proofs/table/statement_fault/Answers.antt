use Rattle.std.proofs.Common.{◌∙◌, sym}
use Rattle.serde_json.specs.View.{view}
use Rattle.iam_policy.specs.declared.fault.Fault.TheVariants.{NotObject}
use Rattle.iam_policy.specs.Code.First.{fault_of, line_has}
use Rattle.iam_policy.specs.Table.{table}
use Rattle.iam_policy.proofs.ElementLemmas.{find_next}
use Rattle.iam_policy.proofs.table.statement_fault.Goals as goal

pub loop-fault-preserved : goal.loop-fault-preserved
unfolding fault_of
loop-fault-preserved c = λ d i same.
    c.loop-fault.invariant d i same
    ∙ find_next (line_has c.args.place.kind d i (view c.args.statement.now) c.args.bad_value) table c.loop-fault.fault-index NotObject _ c.loop-fault-test.true
    (sym (c.line_has.ensures d i same) ∙ c.if-line_has.false)
