use Rattle.std.proofs.Common.{subst}
use Rattle.iam_classes.specs.Engine.{EngineValue, IsClassAt}
use Rattle.iam_classes.proofs.engine.ClassEngine.class.Goals as goal

pub returns-in-Some-clause-class : goal.returns-in-Some-clause-class
returns-in-Some-clause-class c =
    let E : EngineValue → Type 0 = λ engine. IsClassAt engine c.args.p c.args.r c.in-Some.class in subst E c.self.view_is c.in-Some.ensures
