use Rattle.std.proofs.Common.{subst}
use Rattle.iam_layers.specs.Cell.{IsCell, IsVerdictAt}
use Rattle.iam_world.specs.World.{WorldValue}
use Rattle.iam_classes.proofs.engine.ClassEngine.decide_brief.Goals as goal

pub returns-clause-decision : goal.returns-clause-decision
returns-clause-decision c =
    let (p, a, r) = c.triple-p.result in
    let E : WorldValue → Type 0 = λ w. IsCell w c.args.cell p a r in
    let W : WorldValue → Type 0 = λ world. IsVerdictAt world p a r c.verdict.result.now in
    let (applicable, request, asked, holds) = subst W c.in_ok-number.ensures.same.0 (c.verdict.ensures p a r c.in_ok-number.ensures.number) in
    (p, a, r, subst E c.world-world.ensures c.triple-p.ensures.is, (applicable, request, asked, holds.decided))
