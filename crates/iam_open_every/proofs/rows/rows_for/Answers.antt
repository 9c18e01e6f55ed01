use Rattle.std.proofs.Common.{◌+◌, ◌∙◌, List, ap, arith, map, string_bytes, subst, sym, take}
use Rattle.std.proofs.lemmas.List.{length-map, map-append, take_all}
use Rattle.std.specs.Arc.{arc_value}
use Rattle.std.specs.List.{AllZip}
use Rattle.iam_every.specs.Every.{every_of}
use Rattle.iam_open.proofs.ListLemmas.{at_map}
use Rattle.iam_open_every.specs.Made.{IsRowOn}
use Rattle.iam_open_every.specs.Row.{RowValue, row_of}
use Rattle.iam_open_every.specs.Spots.{IsSpot, SpotValue, spot_of}
use Rattle.iam_open_every.proofs.MadeLemmas.{zipped_more}
use Rattle.iam_open_every.proofs.rows.rows_for.Goals as goal

pub row_on-requires-clause-spot : goal.row_on-requires-clause-spot
row_on-requires-clause-spot c =
    let spots = c.args.spots.now in
    let i = c.loop-spot.spot-index in
    let inside = c.loop-spot-test.true in
    let long = length-map spots spot_of in
    subst (IsSpot (every_of c.args.given.asked) c.args.given.p) (sym (at_map spot_of spots i c.spot-item.result inside c.spot-item.is))
    (c.requires.spots.right i (spot_of c.spot-item.result) (omega (arith, inside, long)))

pub loop-spot-preserved : goal.loop-spot-preserved
loop-spot-preserved c =
    let On = IsRowOn c.args.brief (every_of c.args.given.asked) c.args.given.p (string_bytes (arc_value c.args.action.now)) in
    let spots = map spot_of c.args.spots.now in
    let i = c.loop-spot.spot-index in
    let inside = c.loop-spot-test.true in
    let long = length-map c.args.spots.now spot_of in
    let rows = map row_of c.loop-spot.rows.items in
    let now = ap (map row_of) c.in_ok-push.ensures.items ∙ map-append row_of c.loop-spot.rows.items _ in
    subst (λ (l : List RowValue). AllZip On (take (i + 1) spots) l) (sym now)
    (zipped_more On spots i (spot_of c.spot-item.result) rows (row_of c.in_ok-row_on.field-0) (omega (arith, inside, long))
    (at_map spot_of c.args.spots.now i c.spot-item.result inside c.spot-item.is) c.loop-spot.invariant c.in_ok-row_on.ensures)

pub returns : goal.returns
returns c =
    let On = IsRowOn c.args.brief (every_of c.args.given.asked) c.args.given.p (string_bytes (arc_value c.args.action.now)) in
    let spots = map spot_of c.args.spots.now in
    let all = take_all c.loop-spot.spot-index spots (omega (arith, c.loop-spot-test.false, length-map c.args.spots.now spot_of)) in
    subst (λ (l : List SpotValue). AllZip On l (map row_of c.loop-spot.rows.items)) all c.loop-spot.invariant
