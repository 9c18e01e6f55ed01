use Rattle.std.proofs.Common.{◌+◌, subst}
use Rattle.iam_world.specs.World.{WorldValue}
use Rattle.iam_layers.specs.Cell.{IsDecisionAt}
use Rattle.iam_matrix.proofs.RowLemmas.{adds_one}
use Rattle.iam_matrix.proofs.said.DecisionsSaidDecision.say.Goals as goal

pub returns-clause-said : goal.returns-clause-said
returns-clause-said c =
    let at = c.args.at in
    let count = c.in_ok-count.count in
    let decision = c.in_ok-decision.decision in
    let said = c.in_ok-decision.ensures in
    let W : WorldValue → Type 0 = λ w. IsDecisionAt w at.principal at.action (at.resource + count) decision in
    adds_one (IsDecisionAt c.args.engine.now.world at.principal at.action) at.resource count c.args.self.now c.put_decided.new.decisions c.push.new.self decision
    c.in_ok-count.ensures.decisions (subst W said.same.0 said.decision) c.in_ok-push.ensures.ok
