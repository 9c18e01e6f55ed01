use Rattle.std.proofs.Common.{subst}
use Rattle.iam_columns.specs.Slots.{AllAre}
use Rattle.iam_classes.specs.Engine.{EngineValue, IsClassAt}
use Rattle.iam_columns.specs.declared.numbered.Numbered.{Numbered}
use Rattle.iam_classes.proofs.engine.ClassEngine.known_from.Goals as goal

pub returns : goal.returns
returns c =
    let E : EngineValue → Type 0 = λ engine. AllAre (λ (pair : Numbered). IsClassAt engine pair.one pair.other pair.number) c.pairs_from.result.now in
    subst E c.self.view_is c.pairs_from.ensures
