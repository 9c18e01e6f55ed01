use Rattle.std.proofs.Common.{ℕ, subst}
use Rattle.std.proofs.lemmas.Result.{IfOk-weaker}
use Rattle.iam_open.specs.InQuestion.{IsAlways, IsNever}
use Rattle.iam_open.specs.declared.certain.Certain.{Certain}
use Rattle.iam_open.proofs.pair.certainly.Goals as goal

pub returns-clause-always : goal.returns-clause-always
returns-clause-always c = λ worlds among.
    let world = c.args.world.now in
    IfOk-weaker c.scene_certain.result _ _
    (λ (certain : Certain) told always.
    subst (λ (p : ℕ). IsAlways worlds world p c.args.a c.args.r) c.named-scene.ensures.principal
    (told worlds world c.args.a c.args.r c.named-scene.ensures.seat c.action_text.ensures among always))
    c.scene_certain.ensures.always

pub returns-clause-never : goal.returns-clause-never
returns-clause-never c = λ worlds among.
    let world = c.args.world.now in
    IfOk-weaker c.scene_certain.result _ _
    (λ (certain : Certain) told never.
    subst (λ (p : ℕ). IsNever worlds world p c.args.a c.args.r) c.named-scene.ensures.principal
    (told worlds world c.args.a c.args.r c.named-scene.ensures.seat c.action_text.ensures among never))
    c.scene_certain.ensures.never
