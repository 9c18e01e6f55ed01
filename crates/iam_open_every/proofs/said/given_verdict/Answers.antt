use Rattle.std.proofs.Common.{subst}
use Rattle.std.proofs.lemmas.Result.{IfOk-weaker}
use Rattle.iam_context.specs.Context.{ContextValue}
use Rattle.iam_layers.specs.Own.{IsOwnVerdict}
use Rattle.iam_open.specs.InQuestion.{at_moment}
use Rattle.iam_open_every.proofs.SaidLemmas.{as_given}
use Rattle.iam_open_every.proofs.said.given_verdict.Goals as goal

pub returns : goal.returns
returns c =
    let scene = c.args.scene in
    let p = scene.p in
    IfOk-weaker c.scene_verdict.result _ _
    (λ verdict told other a r seat does.
    as_given c.no_keys_change_nothing.ensures.verdict scene.world.now scene.target other p a r c.moment.result verdict c.moment.ensures.value seat
    (subst (λ (own : ContextValue). IsOwnVerdict (at_moment other c.moment.result) p a r own verdict) c.new-none.ensures.items (told other a r seat does)))
    c.scene_verdict.ensures
