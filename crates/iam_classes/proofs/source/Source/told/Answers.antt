use Rattle.std.proofs.Common.{IfOk, sym, subst}
use Rattle.iam_decision.specs.Living.{SharedValue}
use Rattle.iam_layers.specs.Cell.{IsSharedAt}
use Rattle.iam_living.specs.Asker.{IsAsker}
use Rattle.iam_living.specs.Keys.{TellsLives}
use Rattle.iam_living.specs.declared.keys.Lives.{Lives}
use Rattle.iam_classes.specs.Engine.{SourceValue}
use Rattle.iam_classes.specs.Told.{IsTold}
use Rattle.iam_classes.proofs.source.Source.told.Goals as goal
use Rattle.iam_classes.proofs.source.Source.told.Goals.{in-Words, in-Shared}

pub lives-requires-clause-asker : goal.lives-requires-clause-asker
lives-requires-clause-asker c =
    let V : SourceValue → Type 0 = λ v. IsAsker v.world c.args.p c.args.asking.now in subst V (sym c.self.view_is) c.requires.asker

pub returns-clause-told : goal.returns-clause-told
returns-clause-told c =
    let world = c.args.self.now.world in
    let p = c.args.p in
    let r = c.args.r in
    let asker = c.args.asking.now in
    let V : SourceValue → Type 0 = λ v. TellsLives v.world p r asker c.in_ok-bits.field-0 in
    let told = subst V c.self.view_is c.in_ok-bits.ensures.lives in
    let L : Lives → Type 0 = TellsLives world p r asker in
    let R : _ → Type 0 = λ z. IfOk z (IsTold world p r asker) in
    elim c.match-branch-2.branch [
      | in-Words w ↦ subst R (sym w.result-is) (subst L w.in-Words.is told)
      | in-Shared w ↦
          let S : SharedValue → Type 0 = IsSharedAt world p r in subst R (sym w.result-is) (subst S (sym w.own.ensures) (subst L w.in-Shared.is told))
    ]
