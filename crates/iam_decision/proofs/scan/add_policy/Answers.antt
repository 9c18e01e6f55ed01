use Rattle.std.proofs.Common.{◌∷◌, [], ℕ, ap, ◌∙◌, map}
use Rattle.std.proofs.lemmas.List.{map-append}
use Rattle.iam_policy.specs.Reading.{StatementValue}
use Rattle.iam_decision.specs.Matched.{Placed}
use Rattle.iam_decision.specs.Code.Scan.{placed_value}
use Rattle.iam_decision.proofs.ScanLemmas.{added_more}
use Rattle.iam_decision.proofs.scan.add_policy.Goals as goal

pub loop-number-preserved : goal.loop-number-preserved
loop-number-preserved c =
    let f = λ (s : ℕ × StatementValue).
    let one : Placed = record {
      place = record { layer = c.args.origin.layer; level = c.args.origin.level; policy = c.args.origin.policy; statement = s.0 };
      statement = s.1;
    } in
    one ∷ [] in
    added_more f c.statements-statement-items.result.now c.loop-number.number c.statement-item.result
    (map placed_value c.args.statements.now.items) (map placed_value c.loop-number.statements.items) (map placed_value c.push.new.self.items)
    c.loop-number-test.true c.statement-item.is c.loop-number.invariant
    (ap (map placed_value) c.in_ok-push.ensures.items ∙ map-append placed_value c.loop-number.statements.items _)
