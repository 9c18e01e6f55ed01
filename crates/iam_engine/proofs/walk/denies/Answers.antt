use Rattle.std.proofs.Common.{inr, sym}
use Rattle.std.proofs.lemmas.Result.{IfOk-weaker}
use Rattle.iam_match.specs.Request.{access_of}
use Rattle.iam_decision.specs.Code.Scan.{placed_value}
use Rattle.iam_engine.proofs.WalkLemmas.{deny_told}
use Rattle.iam_engine.proofs.walk.denies.Goals as goal

pub returns-in-Deny-clause-told : goal.returns-in-Deny-clause-told
returns-in-Deny-clause-told c =
    IfOk-weaker c.rest_matches.result _ _
    (λ denied agrees. deny_told (access_of c.args.access) (placed_value c.args.standing) c.args.findings.now denied (sym c.in-Deny.ensures) agrees)
    c.rest_matches.ensures.matched

pub returns-in_ok-add_open-in-Allow-clause-told : goal.returns-in_ok-add_open-in-Allow-clause-told
returns-in_ok-add_open-in-Allow-clause-told c = inr (sym c.in-Allow.ensures, c.in_ok-add_open-in-Allow.ensures.found)
