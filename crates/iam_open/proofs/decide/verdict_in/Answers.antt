use Rattle.std.proofs.Common.{ℕ, subst}
use Rattle.std.proofs.lemmas.Result.{IfOk-weaker}
use Rattle.iam_layers.specs.Own.{IsOwnVerdict}
use Rattle.iam_open.specs.InQuestion.{at_moment}
use Rattle.iam_open.proofs.decide.verdict_in.Goals as goal

pub returns : goal.returns
returns c =
    let world = c.args.world.now in
    IfOk-weaker c.scene_verdict.result _ _
    (λ verdict told.
    subst (λ (p : ℕ). IsOwnVerdict (at_moment world c.args.moment) p c.args.a c.args.r c.args.own.now.items verdict) c.named-scene.ensures.principal
    (told world c.args.a c.args.r c.named-scene.ensures.seat c.action_text.ensures))
    c.scene_verdict.ensures
