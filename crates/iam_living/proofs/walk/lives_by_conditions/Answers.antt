use Rattle.std.proofs.Common.{refl, subst}
use Rattle.std.proofs.lemmas.Result.{IfOk-weaker}
use Rattle.iam_match.specs.Principal.{PrincipalMatches}
use Rattle.iam_decision.specs.declared.scan.Standing.{Standing}
use Rattle.iam_living.proofs.MarkLemmas.{read_at}
use Rattle.iam_living.proofs.walk.lives_by_conditions.Goals as goal

pub returns-clause-lives : goal.returns-clause-lives
returns-clause-lives c = λ p r derived standing at told there.
    let found = c.index-statements-i.result in
    let same = read_at c.statements.result.now c.args.known.now.statements c.args.i found standing c.statements.ensures there in
    let P : Standing → Type 0 = λ s. PrincipalMatches s.statement.now.principal c.args.access.requester.now in
    let about = subst P same (c.if-not-principal_matches.ensures.0 refl) in
    IfOk-weaker c.conditions_hold.result _ _ (λ held is. (λ yes. (about, is.0 yes), λ both. is.1 both.1))
    (c.conditions_hold.ensures.held p r derived standing at told there)
