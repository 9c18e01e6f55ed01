use Rattle.std.proofs.Common.{sym, subst}
use Rattle.iam_decision.specs.declared.verdict.Verdict.{Verdict}
use Rattle.iam_layers.specs.Cell.{IsCell, IsVerdictAt}
use Rattle.iam_world.specs.World.{WorldValue}
use Rattle.iam_classes.proofs.engine.ClassEngine.decide.Goals as goal

pub returns-clause-verdict : goal.returns-clause-verdict
returns-clause-verdict c =
    let (p, a, r) = c.triple-p.result in
    let E : WorldValue → Type 0 = λ w. IsCell w c.args.cell p a r in
    let W : WorldValue → Type 0 = λ world. IsVerdictAt world p a r c.verdict.result.now in
    let V : Verdict → Type 0 = λ verdict. IsVerdictAt c.args.self.now.world p a r verdict in
    let at = subst W c.in_ok-number.ensures.same.0 (c.verdict.ensures p a r c.in_ok-number.ensures.number) in
    (p, a, r, subst E c.world-world.ensures c.triple-p.ensures.is, subst V (sym c.in_ok-verdict.ensures) at)
