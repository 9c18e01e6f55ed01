use Rattle.std.proofs.Common.{◌∷◌, [], subst}
use Rattle.std.proofs.lemmas.Result.{IfOk-weaker}
use Rattle.iam_open.specs.Turned.{IsTurned}
use Rattle.iam_open.specs.declared.answer.Turned.{Turned}
use Rattle.iam_open.proofs.HangLemmas.{always_hangs, never_hangs}
use Rattle.iam_open.proofs.hangs.scene_hangs.Goals as goal

pub returns-in-Always-clause-keys : goal.returns-in-Always-clause-keys
returns-in-Always-clause-keys c = λ other a r seat does turned.
    always_hangs (other ∷ []) other c.args.scene.p a r c.on_nothing.result.keys.items
    (subst (λ (t : Turned). IsTurned (other ∷ []) other c.args.scene.p a r t) c.in-Always.is turned)

pub returns-in-Never-clause-keys : goal.returns-in-Never-clause-keys
returns-in-Never-clause-keys c = λ other a r seat does turned.
    never_hangs (other ∷ []) other c.args.scene.p a r c.on_nothing-in-Never.result.keys.items
    (subst (λ (t : Turned). IsTurned (other ∷ []) other c.args.scene.p a r t) c.in-Never.is turned)

pub returns-in-Possible-clause-keys : goal.returns-in-Possible-clause-keys
returns-in-Possible-clause-keys c =
    IfOk-weaker c.hangs_in.result _ _ (λ hangs told other a r seat does turned. told other a r seat does) c.hangs_in.ensures.keys

pub returns-in-Open-clause-keys : goal.returns-in-Open-clause-keys
returns-in-Open-clause-keys c =
    IfOk-weaker c.hangs_in-in-Open.result _ _ (λ hangs told other a r seat does turned. told other a r seat does) c.hangs_in-in-Open.ensures.keys
