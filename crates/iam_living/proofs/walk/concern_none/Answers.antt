use Rattle.std.proofs.Common.{◌≤◌, [], List, length, map, take, subst, arith}
use Rattle.std.proofs.lemmas.List.{take_all}
use Rattle.iam_match.specs.Principal.{PrincipalMatches}
use Rattle.iam_match.specs.Requester.{RequesterValue}
use Rattle.iam_decision.specs.Code.Scan.{placed_value}
use Rattle.iam_decision.specs.Living.{AreLiving, Lives}
use Rattle.iam_decision.specs.Matched.{Placed}
use Rattle.iam_decision.specs.declared.scan.Standing.{Standing}
use Rattle.iam_index.proofs.IndexLemmas.{one_behind}
use Rattle.iam_living.proofs.WordLemmas.{living_skip, not_both}
use Rattle.iam_living.proofs.walk.concern_none.Goals as goal

pub loop-standing-preserved : goal.loop-standing-preserved
loop-standing-preserved c = λ access asks.
    let statements = c.args.statements.now in
    let i = c.loop-standing.standing-index in
    let s = c.standing-item.result in
    let R : RequesterValue → Type 0 = PrincipalMatches s.statement.now.principal in
    let dead : ¬ Lives access (placed_value s) = λ lives.
    not_both c.principal_matches.result c.if-principal_matches.false (c.principal_matches.ensures.1 (subst R asks lives.principal)) in
    let P : List Placed → Type 0 = λ z. AreLiving access z [] in
    subst P (one_behind [] statements i s c.loop-standing-test.true c.standing-item.is)
    (living_skip access (map placed_value (take i statements)) (placed_value s) [] dead (c.loop-standing.invariant access asks))

pub returns : goal.returns
returns c = λ is access asks.
    let P : List Standing → Type 0 = λ z. AreLiving access (map placed_value z) [] in
    let past : length c.args.statements.now ≤ c.loop-standing.standing-index = omega (arith, c.loop-standing-test.false) in
    subst P (take_all c.loop-standing.standing-index c.args.statements.now past) (c.loop-standing.invariant access asks)
