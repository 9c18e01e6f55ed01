use Rattle.std.proofs.Common.{◌++◌, ◌≤◌, List, length, map, take, subst, arith}
use Rattle.std.proofs.lemmas.List.{take_all}
use Rattle.iam_match.specs.Request.{access_of}
use Rattle.iam_decision.specs.Code.Scan.{placed_value}
use Rattle.iam_decision.specs.Living.{AreLiving, living_value}
use Rattle.iam_decision.specs.Matched.{Placed}
use Rattle.iam_decision.specs.declared.scan.Standing.{Standing}
use Rattle.iam_index.proofs.IndexLemmas.{one_behind}
use Rattle.iam_living.specs.Living.{AddsLiving}
use Rattle.iam_living.proofs.walk.add_all.Goals as goal

pub loop-standing-preserved : goal.loop-standing-preserved
loop-standing-preserved c = λ before are.
    let statements = c.args.statements.now in
    let i = c.loop-standing.standing-index in
    let P : List Placed → Type 0 = λ z. AreLiving (access_of c.args.access) z (map living_value c.add_living.new.living.items) in
    subst P (one_behind before statements i c.standing-item.result c.loop-standing-test.true c.standing-item.is)
    (c.in_ok-add_living.ensures (before ++ map placed_value (take i statements)) (c.loop-standing.invariant before are))

pub returns : goal.returns
returns c =
    let P : List Standing → Type 0 = λ z.
    AddsLiving (access_of c.args.access) (map placed_value z) (map living_value c.args.living.now.items) (map living_value c.loop-standing.living.items) in
    let past : length c.args.statements.now ≤ c.loop-standing.standing-index = omega (arith, c.loop-standing-test.false) in
    subst P (take_all c.loop-standing.standing-index c.args.statements.now past) c.loop-standing.invariant
