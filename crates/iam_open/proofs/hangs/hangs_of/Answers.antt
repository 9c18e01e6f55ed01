use Rattle.std.proofs.Common.{◌∷◌, [], ℕ, subst, sym}
use Rattle.std.proofs.lemmas.Result.{IfOk-weaker}
use Rattle.iam_open.specs.Hangs.{HangsOn}
use Rattle.iam_open.specs.Turned.{IsTurned}
use Rattle.iam_open.proofs.hangs.hangs_of.Goals as goal

pub returns-clause-keys : goal.returns-clause-keys
returns-clause-keys c =
    let world = c.args.world.now in
    let a = c.args.a in
    let r = c.args.r in
    let is = c.named-scene.ensures.principal in
    IfOk-weaker c.scene_hangs.result _ _
    (λ hangs told.
    subst (λ (p : ℕ). HangsOn (world ∷ []) world p a r hangs.keys.items) is
    (told world a r c.named-scene.ensures.seat c.action_text.ensures
    (subst (λ (p : ℕ). IsTurned (world ∷ []) world p a r c.args.turned.now) (sym is) c.requires.turned)))
    c.scene_hangs.ensures.keys
