use Rattle.std.proofs.Common.{◌≡◌, ◌<◌, ◌≤◌, List, arith, length, map}
use Rattle.std.proofs.lemmas.List.{length-map}
use Rattle.iam_decision.specs.Code.Scan.{placed_value}
use Rattle.iam_decision.specs.Matched.{Placed}
use Rattle.iam_match.specs.Request.{access_of}
use Rattle.iam_open.proofs.ListLemmas.{at_map}
use Rattle.iam_open.proofs.ListedLemmas.{listed_more, listed_none, listed_taken}
use Rattle.iam_open.proofs.hangs.open_of.Goals as goal

pub loop-standing-init : goal.loop-standing-init
loop-standing-init c =
    listed_none c.args.known.now (access_of c.args.access) c.args.action.now c.on_nothing-hangs.result.places.items
    c.on_nothing-hangs.result.keys.items c.on_nothing-hangs.ensures.places c.on_nothing-hangs.ensures.keys

pub loop-standing-preserved : goal.loop-standing-preserved
loop-standing-preserved c =
    let statements = c.args.statements.now in
    let xs : List Placed = map placed_value statements in
    let i = c.loop-standing.standing-index in
    let long : length xs ≡ length statements = length-map statements placed_value in
    let inside : i < length statements = c.loop-standing-test.true in
    let below : i < length xs = omega (arith, long, inside) in
    listed_more c.args.known.now (access_of c.args.access) c.args.action.now xs i (placed_value c.standing-item.result) c.loop-standing.hangs
    c.add.new.self below (at_map placed_value statements i c.standing-item.result inside c.standing-item.is) c.loop-standing.invariant
    c.in_ok-add.ensures

pub returns : goal.returns
returns c =
    let statements = c.args.statements.now in
    let xs : List Placed = map placed_value statements in
    let i = c.loop-standing.standing-index in
    let long : length xs ≡ length statements = length-map statements placed_value in
    let past : length xs ≤ i = omega (arith, long, c.loop-standing-test.false) in
    listed_taken c.args.known.now (access_of c.args.access) c.args.action.now xs i c.loop-standing.hangs.places.items
    c.loop-standing.hangs.keys.items past c.loop-standing.invariant
