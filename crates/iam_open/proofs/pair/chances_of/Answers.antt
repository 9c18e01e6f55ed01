use Rattle.std.proofs.Common.{◌≡◌, ◌<◌, ◌+◌, List, [], arith, length, map, subst, sym, take}
use Rattle.std.proofs.lemmas.List.{length-map}
use Rattle.iam_decision.specs.Code.Scan.{placed_value}
use Rattle.iam_decision.specs.Matched.{Placed}
use Rattle.iam_match.specs.Request.{access_of}
use Rattle.iam_open.specs.Code.Known.{Follows}
use Rattle.iam_open.specs.Code.Pairs.{AreChances}
use Rattle.iam_open.specs.declared.pair.Chance.{Chance}
use Rattle.iam_open.proofs.ListLemmas.{at_map}
use Rattle.iam_open.proofs.PairLemmas.{chances_more, chances_none}
use Rattle.iam_open.proofs.pair.chances_of.Goals as goal

pub loop-standing-init : goal.loop-standing-init
loop-standing-init c =
    let access = access_of c.args.access in
    let Are = Follows c.args.known.now c.args.access.context.now in
    subst (λ (xs : List Chance). AreChances access Are [] xs) (sym c.new-chances.ensures.items) (chances_none access Are)

pub loop-standing-preserved : goal.loop-standing-preserved
loop-standing-preserved c =
    let statements = c.args.statements.now in
    let xs : List Placed = map placed_value statements in
    let access = access_of c.args.access in
    let Are = Follows c.args.known.now c.args.access.context.now in
    let i = c.loop-standing.standing-index in
    let s = c.standing-item.result in
    let inside : i < length statements = c.loop-standing-test.true in
    let long : length xs ≡ length statements = length-map statements placed_value in
    let below : i < length xs = omega (arith, long, inside) in
    let here = at_map placed_value statements i s inside c.standing-item.is in
    subst (λ (found : List Chance). AreChances access Are (take (i + 1) xs) found) (sym c.in_ok-add_chance.ensures)
    (chances_more access Are xs i s c.in_ok-certain.certain c.loop-standing.chances.items below here c.in_ok-certain.ensures.told c.loop-standing.invariant)
