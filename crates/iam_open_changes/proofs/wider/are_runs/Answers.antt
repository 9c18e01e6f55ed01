use Rattle.std.proofs.Common.{arith}
use Rattle.iam_glob.specs.Signs.{signs_in}
use Rattle.iam_glob.specs.declared.sign.Sign.TheVariants.{Any}
use Rattle.iam_match.proofs.StatementLemmas.{all_taken}
use Rattle.iam_open_changes.specs.Code.Implied.{IsRun}
use Rattle.iam_open_changes.proofs.WiderLemmas.{runs_on}
use Rattle.iam_open_changes.proofs.wider.are_runs.Goals as goal

pub loop-i-preserved : goal.loop-i-preserved
loop-i-preserved c =
    runs_on (signs_in c.args.signs) c.loop-i.i Any c.at.result (omega (arith, c.loop-i-test.true, c.len-i-end.ensures)) c.at.ensures
    (c.is_run.ensures c.if-not-is_run.false) c.loop-i.invariant

pub returns : goal.returns
returns c = λ yes.
    all_taken IsRun (signs_in c.args.signs) c.loop-i.i (omega (arith, c.loop-i-test.false, c.len-i-end.ensures)) c.loop-i.invariant
