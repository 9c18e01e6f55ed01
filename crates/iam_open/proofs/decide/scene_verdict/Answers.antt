use Rattle.std.proofs.Common.{[], ◌∷◌, arith, refl}
use Rattle.std.proofs.lemmas.Result.{IfOk-weaker}
use Rattle.iam_decision.specs.Applicable.{value_of}
use Rattle.iam_match.specs.Statement.{AccessValue}
use Rattle.iam_open.proofs.DecideLemmas.{decided_in}
use Rattle.iam_open.proofs.decide.scene_verdict.Goals as goal

pub returns : goal.returns
returns c =
    let action = c.args.action.now in
    let access : AccessValue = record { requester = c.requester.result.now; resource = c.text.result.now; context = c.in-Ok.context } in
    IfOk-weaker c.verdict.result _ _
    (λ verdict decided other a r seat does.
    decided_in other c.args.scene.p a r c.args.moment c.requester.result.now c.text.result.now action c.args.own.now.items c.in-Ok.context
    c.in_ok-derived.derived.items (value_of c.applicable.result) verdict (c.requester.ensures other r seat) (c.text.ensures other r seat)
    (c.in_ok-derived.ensures other r seat) (c.in-Ok.ensures.is other r seat) (c.applicable.ensures.value other r seat) does decided)
    (c.verdict.ensures (action ∷ []) (value_of c.applicable.result) access (0, omega arith, refl) (c.in_ok-shared.ensures (action ∷ [])))
