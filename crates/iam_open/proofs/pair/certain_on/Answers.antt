use Rattle.std.proofs.Common.{subst}
use Rattle.iam_element.specs.Reading.{ActionElement}
use Rattle.iam_decision.specs.Matched.{IsMatched}
use Rattle.iam_match.specs.Statement.{ActionMatches, RestMatches}
use Rattle.iam_open.specs.Code.Known.{Follows, access_at, request_in}
use Rattle.iam_open.specs.Code.Pairs.{placed_of}
use Rattle.iam_open.proofs.CertainLemmas.{tells_same}
use Rattle.iam_open.proofs.pair.certain_on.Goals as goal

pub returns : goal.returns
returns c = λ access known is.
    let s = c.args.chance.statement.now in
    let acts = subst (λ (e : ActionElement). ActionMatches e c.args.action.now) c.action.ensures
    (c.action_matches.ensures.0 c.if-not-action_matches.false) in
    tells_same c.args.chance.certain (Follows known access.context) (λ other. RestMatches s (access_at access other))
    (λ other. IsMatched (request_in access c.args.action.now other) (placed_of c.args.chance))
    (λ other agree. (λ rest. record { action = acts; rest = rest }, λ matches. matches.rest)) is.certain
