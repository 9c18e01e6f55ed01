use Rattle.std.proofs.Common.{◌≡◌, ℕ, subst, arith}
use Rattle.iam_layers.specs.Cell.{IsDecisionAt}
use Rattle.iam_matrix.specs.Code.Tiles.{Adds}
use Rattle.iam_matrix.proofs.RowLemmas.{adds_none, adds_one}
use Rattle.iam_matrix.proofs.said.put_decided.Goals as goal

pub loop-i-init : goal.loop-i-init
loop-i-init c = adds_none (IsDecisionAt c.args.engine.now.world c.args.at.principal c.args.at.action) c.args.at.resource c.args.decisions.now

pub loop-i-preserved : goal.loop-i-preserved
loop-i-preserved c =
    let at = c.args.at in
    let world = c.args.engine.now.world in
    let is = c.in-Some.ensures world at.principal at.action at.resource c.requires c.decided_from-known.ensures in
    adds_one (IsDecisionAt world at.principal at.action) at.resource c.loop-i.i c.args.decisions.now c.loop-i.decisions c.push.new.self c.in-Some.decision
    c.loop-i.invariant is c.in_ok-push.ensures.ok

pub returns-clause-decisions : goal.returns-clause-decisions
returns-clause-decisions c =
    let at = c.args.at in
    let Is = IsDecisionAt c.args.engine.now.world at.principal at.action in
    let N : ℕ → Type 0 = λ n. Adds Is at.resource n c.args.decisions.now c.loop-i.decisions in
    let all : c.loop-i.i ≡ c.args.most = omega (arith, c.loop-i.auto.i-end, c.loop-i-test.false) in
    subst N all c.loop-i.invariant
