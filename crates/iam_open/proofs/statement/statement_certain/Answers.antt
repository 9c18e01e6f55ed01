use Rattle.std.proofs.lemmas.Result.{IfOk-weaker}
use Rattle.std.proofs.Common.{subst}
use Rattle.iam_element.specs.Reading.{ActionElement}
use Rattle.iam_match.specs.Request.{access_of}
use Rattle.iam_match.specs.Statement.{ActionMatches, RestMatches, StatementMatches}
use Rattle.iam_open.specs.Code.Known.{Follows, access_at, request_in}
use Rattle.iam_open.specs.declared.certain.Certain.{Certain}
use Rattle.iam_open.proofs.CertainLemmas.{tells_same}
use Rattle.iam_open.proofs.statement.statement_certain.Goals as goal

pub returns-clause-told : goal.returns-clause-told
returns-clause-told c =
    let Are = Follows c.args.known.now c.args.access.context.now in
    let s = c.args.statement.now in
    let access = access_of c.args.access in
    let acts = subst (λ (e : ActionElement). ActionMatches e c.args.action.now) c.action.ensures
    (c.action_matches.ensures.0 c.if-not-action_matches.false) in
    IfOk-weaker c.rest_certain.result _ _
    (λ (certain : Certain) told.
    tells_same certain Are (λ other. RestMatches s (access_at access other)) (λ other. StatementMatches s (request_in access c.args.action.now other))
    (λ other agree. (λ rest. record { action = acts; rest = rest }, λ matches. matches.rest)) told)
    c.rest_certain.ensures.told
