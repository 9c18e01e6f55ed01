use Rattle.std.proofs.lemmas.Result.{IfOk-weaker}
use Rattle.std.proofs.Common.{All}
use Rattle.iam_match.specs.Entry.{EntryHolds}
use Rattle.iam_match.specs.Request.{access_of}
use Rattle.iam_match.specs.Statement.{ResourceMatches, RestMatches}
use Rattle.iam_open.specs.Code.Known.{Follows, access_at}
use Rattle.iam_open.specs.declared.certain.Certain.{Certain}
use Rattle.iam_open.proofs.CertainLemmas.{tells_same}
use Rattle.iam_open.proofs.statement.rest_certain.Goals as goal

pub returns-clause-told : goal.returns-clause-told
returns-clause-told c =
    let Are = Follows c.args.known.now c.args.access.context.now in
    let s = c.args.statement.now in
    let resource = c.args.access.resource.now in
    let who = c.principal_matches.ensures.0 c.if-not-principal_matches.false in
    IfOk-weaker c.elements_certain.result _ _
    (λ (certain : Certain) told.
    tells_same certain Are (λ other. ResourceMatches s.resource resource other × All (EntryHolds other) s.conditions)
    (λ other. RestMatches s (access_at (access_of c.args.access) other))
    (λ other agree. (
      λ rest. record { principal = who; resource = rest.0; conditions = rest.1 },
      λ matches. (matches.resource, matches.conditions),
    )) told)
    c.elements_certain.ensures.told
