use Rattle.std.proofs.Common.{◌≡◌, ◌<◌, ◌+◌, List, MatchOption, Option, arith, length, map, subst, sym, take}
use Rattle.std.proofs.lemmas.List.{length-map}
use Rattle.iam_context.specs.Context.{ContextValue}
use Rattle.iam_decision.specs.Code.Scan.{placed_value}
use Rattle.iam_decision.specs.Matched.{IsMatched, Placed}
use Rattle.iam_match.specs.Request.{access_of}
use Rattle.iam_open.specs.Code.Known.{AgreeOn, request_in}
use Rattle.iam_open.proofs.ListLemmas.{at_map}
use Rattle.iam_open_changes.specs.Code.Kept.{AreKeptOf, IsKept, KeptValue}
use Rattle.iam_open_changes.proofs.KeptLemmas.{kept_more, kept_past}
use Rattle.iam_open_changes.proofs.kept.kept_of.Goals as goal

pub loop-standing-preserved : goal.loop-standing-preserved
loop-standing-preserved c =
    let statements = c.args.statements.now in
    let xs : List Placed = map placed_value statements in
    let access = access_of c.args.access in
    let action = c.args.action.now in
    let Are = AgreeOn c.args.known.now c.args.access.context.now in
    let i = c.loop-standing.standing-index in
    let x = placed_value c.standing-item.result in
    let inside : i < length statements = c.loop-standing-test.true in
    let below : i < length xs = omega (arith, length-map statements placed_value, inside) in
    let (of_x, is_kept) =
    subst (λ (found : Option KeptValue). MatchOption found
    ((context : ContextValue) → Are context → ¬ IsMatched (request_in access action context) x)
    (λ it. (it.standing ≡ x) × IsKept access action Are it)) c.in-Some.is c.in_ok-it.ensures in
    subst (λ (kept : List KeptValue). AreKeptOf access action Are (take (i + 1) xs) kept) (sym c.in_ok-push.ensures.items)
    (kept_more access action Are xs i x c.in-Some.it c.loop-standing.kept.items below
    (at_map placed_value statements i c.standing-item.result inside c.standing-item.is) of_x is_kept c.loop-standing.invariant)

pub loop-standing-preserved-in_default : goal.loop-standing-preserved-in_default
loop-standing-preserved-in_default c =
    let statements = c.args.statements.now in
    let xs : List Placed = map placed_value statements in
    let access = access_of c.args.access in
    let action = c.args.action.now in
    let Are = AgreeOn c.args.known.now c.args.access.context.now in
    let i = c.loop-standing.standing-index in
    let x = placed_value c.standing-item.result in
    let inside : i < length statements = c.loop-standing-test.true in
    let below : i < length xs = omega (arith, length-map statements placed_value, inside) in
    kept_past access action Are xs i x c.loop-standing.kept.items below
    (at_map placed_value statements i c.standing-item.result inside c.standing-item.is)
    (subst (λ (found : Option KeptValue). MatchOption found
    ((context : ContextValue) → Are context → ¬ IsMatched (request_in access action context) x)
    (λ it. (it.standing ≡ x) × IsKept access action Are it)) c.in_default.is c.in_ok-it.ensures) c.loop-standing.invariant
