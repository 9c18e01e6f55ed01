use Rattle.std.proofs.Common.{ℕ, subst}
use Rattle.iam_layers.specs.Cell.{IsVerdictAt}
use Rattle.iam_classes.specs.Engine.{EngineValue, IsNumberAt}
use Rattle.iam_classes.proofs.engine.ClassEngine.verdict.Goals as goal

pub returns : goal.returns
returns c =
    let E : EngineValue → Type 0 = λ engine. (p a r : ℕ) → IsNumberAt engine p a r c.args.number → IsVerdictAt engine.world p a r c.verdict.result.now in
    subst E c.self.view_is c.verdict.ensures
