use Rattle.std.proofs.Common.{ℕ, map}
use Rattle.iam_policy.specs.Reading.{PolicyValue}
use Rattle.iam_decision.specs.Matched.{in_policy}
use Rattle.iam_decision.specs.Code.Scan.{placed_value}
use Rattle.iam_decision.proofs.ScanLemmas.{added_more}
use Rattle.iam_decision.proofs.scan.add_level.Goals as goal

pub loop-number-preserved : goal.loop-number-preserved
loop-number-preserved c =
    let f = λ (p : ℕ × PolicyValue). in_policy c.args.layer c.args.level p.0 p.1 in
    added_more f c.args.policies.now c.loop-number.number c.index-policies-number.result
    (map placed_value c.args.statements.now.items) (map placed_value c.loop-number.statements.items) (map placed_value c.add_policy.new.statements.items)
    c.loop-number-test.true c.index-policies-number.is c.loop-number.invariant c.in_ok-add_policy.ensures
