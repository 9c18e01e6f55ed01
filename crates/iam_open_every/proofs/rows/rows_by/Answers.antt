use Rattle.std.proofs.Common.{◌≡◌, ◌+◌, ◌++◌, ◌∙◌, List, String, ℕ, ap, arith, map, string_bytes, subst, sym, take}
use Rattle.std.proofs.lemmas.List.{length-map, map-append, take_all}
use Rattle.std.specs.Arc.{arc_value}
use Rattle.std.specs.Global.{Global}
use Rattle.iam_every.specs.Every.{every_of}
use Rattle.iam_open.proofs.ListLemmas.{at_map}
use Rattle.iam_open_every.specs.Made.{AreJoined, AreOfAction}
use Rattle.iam_open_every.specs.Row.{RowValue, row_of}
use Rattle.iam_open_every.specs.Spots.{spot_of}
use Rattle.iam_open_every.proofs.MadeLemmas.{joined_more}
use Rattle.iam_open_every.proofs.rows.rows_by.Goals as goal

pub loop-action-preserved : goal.loop-action-preserved
loop-action-preserved c =
    let Made = AreOfAction c.args.brief (every_of c.args.given.asked) c.args.given.p (map spot_of c.args.spots.now) in
    let actions = map string_bytes c.args.actions.now in
    let i = c.loop-action.action-index in
    let x = c.action-item.result in
    let inside = c.loop-action-test.true in
    let long = length-map c.args.actions.now (λ (s : String Global). string_bytes s) in
    let rows = map row_of c.loop-action.rows.items in
    let more = map row_of c.in_ok-more.more.items in
    let same : string_bytes (arc_value c.in_ok-shared.shared) ≡ string_bytes x = c.in_ok-shared.ensures ∙ c.as_str.ensures.value in
    let now : map row_of c.append.new.self.items ≡ rows ++ more =
    ap (map row_of) c.in_ok-append.ensures.items ∙ map-append row_of c.loop-action.rows.items c.in_ok-more.more.items in
    subst (λ (l : List RowValue). AreJoined Made (take (i + 1) actions) l) (sym now)
    (joined_more Made actions i (string_bytes x) rows more (omega (arith, inside, long))
    (at_map string_bytes c.args.actions.now i x inside c.action-item.is) c.loop-action.invariant
    (subst (λ (a : List ℕ). Made a more) same c.in_ok-more.ensures))

pub returns : goal.returns
returns c =
    let Made = AreOfAction c.args.brief (every_of c.args.given.asked) c.args.given.p (map spot_of c.args.spots.now) in
    let actions = map string_bytes c.args.actions.now in
    let long = length-map c.args.actions.now (λ (s : String Global). string_bytes s) in
    let all = take_all c.loop-action.action-index actions (omega (arith, c.loop-action-test.false, long)) in
    subst (λ (l : List (List ℕ)). AreJoined Made l (map row_of c.loop-action.rows.items)) all c.loop-action.invariant
