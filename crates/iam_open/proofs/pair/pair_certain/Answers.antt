use Rattle.std.proofs.Common.{subst}
use Rattle.std.proofs.lemmas.Result.{IfOk-weaker}
use Rattle.iam_decision.specs.Decision.{IsDecision}
use Rattle.iam_decision.specs.declared.verdict.Decision.TheVariants.{Allowed}
use Rattle.iam_open.specs.Code.Certain.{Tells}
use Rattle.iam_open.specs.Code.Known.{Follows, request_in}
use Rattle.iam_open.specs.declared.certain.Certain.{Certain}
use Rattle.iam_open.proofs.PairLemmas.{looked_at}
use Rattle.iam_open.proofs.WhereLemmas.{always_where, never_where}
use Rattle.iam_open.proofs.pair.pair_certain.Goals as goal

pub returns-clause-always : goal.returns-clause-always
returns-clause-always c =
    let action = c.args.action.now in
    IfOk-weaker c.allowed_certain.result _ _
    (λ (certain : Certain) told world p a r part at does is always.
    always_where c.one_stamp.ensures c.one_decision.ensures world p a r part is.access.context is.derived at is.moment is.known is.access.requester
    is.access.resource action
    (looked_at world p a r part is.access is.derived at is.moment is.known action is.view does) is.view.first
    (λ y applies.
    subst (λ (x : Certain). Tells x (Follows is.known is.access.context) (λ other. IsDecision y (request_in is.access action other) Allowed)) always
    (told is.access is.known y (is.each y applies))))
    c.allowed_certain.ensures

pub returns-clause-never : goal.returns-clause-never
returns-clause-never c =
    let action = c.args.action.now in
    IfOk-weaker c.allowed_certain.result _ _
    (λ (certain : Certain) told world p a r part at does is never.
    never_where c.one_stamp.ensures world p a r part is.access.context is.derived at is.moment is.known is.access.requester is.access.resource
    action
    (looked_at world p a r part is.access is.derived at is.moment is.known action is.view does) is.view.first
    (λ y applies.
    subst (λ (x : Certain). Tells x (Follows is.known is.access.context) (λ other. IsDecision y (request_in is.access action other) Allowed)) never
    (told is.access is.known y (is.each y applies))))
    c.allowed_certain.ensures
