use Rattle.std.proofs.Common.{◌++◌, ◌∙◌, ap, codes}
use Rattle.std.proofs.lemmas.Result.{IfOk-weaker}
use Rattle.iam_context.proofs.arn.session_arn.Goals as goal

pub returns : goal.returns
returns c =
    let p = c.args.parts in
    IfOk-weaker c.format.result _ _
    (
    λ arn text. text
    ∙ ap (λ role. codes "arn:" ++ (p.partition.now ++ (codes ":sts::" ++ (p.account.now ++ (codes ":assumed-role/" ++ (role ++ (codes "/" ++ c.args.session.now)))))))
    c.last_segment-role.ensures
    )
    c.format.ensures.ok
