use Rattle.std.proofs.Common.{◌∷◌, [], ℕ, subst}
use Rattle.std.proofs.lemmas.Result.{IfOk-weaker}
use Rattle.iam_open.specs.Turned.{IsTurned}
use Rattle.iam_open.proofs.answer.turned_of.Goals as goal

pub returns : goal.returns
returns c =
    let world = c.args.world.now in
    IfOk-weaker c.scene_turned.result _ _
    (λ turned told.
    subst (λ (p : ℕ). IsTurned (world ∷ []) world p c.args.a c.args.r turned) c.named-scene.ensures.principal
    (told world c.args.a c.args.r c.named-scene.ensures.seat c.action_text.ensures))
    c.scene_turned.ensures
