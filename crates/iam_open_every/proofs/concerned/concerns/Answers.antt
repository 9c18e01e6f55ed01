use Rattle.std.proofs.Common.{◌≡◌, ◌<◌, ◌+◌, List, length, map, take, sym, ◌∙◌, ap, subst, arith}
use Rattle.std.proofs.lemmas.List.{length-map, map-append}
use Rattle.iam_match.specs.Request.{access_of}
use Rattle.iam_decision.specs.Code.Scan.{placed_value}
use Rattle.iam_decision.specs.Matched.{Placed}
use Rattle.iam_open.proofs.ListLemmas.{at_map}
use Rattle.iam_open_every.specs.Concerned.{AreConcerned}
use Rattle.iam_open_every.proofs.ConcernedLemmas.{concerned_more, concerned_skip}
use Rattle.iam_open_every.proofs.concerned.concerns.Goals as goal
use Rattle.iam_open_every.proofs.concerned.concerns.Goals.{then-branch+in_ok-push, else-branch}

pub loop-standing-preserved : goal.loop-standing-preserved
loop-standing-preserved c =
    let statements = c.args.statements.now in
    let access = access_of c.args.access in
    let known = c.args.known.now in
    let xs : List Placed = map placed_value statements in
    let i = c.loop-standing.standing-index in
    let x : Placed = placed_value c.standing-item.result in
    let found = map placed_value c.loop-standing.found.items in
    let inside : i < length statements = c.loop-standing-test.true in
    let long : length xs ≡ length statements = length-map statements placed_value in
    let below : i < length xs = omega (arith, long, inside) in
    let here = at_map placed_value statements i c.standing-item.result inside c.standing-item.is in
    let before = c.loop-standing.invariant in
    let told = c.in_ok-may_concern.ensures c.standing-item.result.place in
    let Q : List Placed → Type 0 = λ items. AreConcerned access known (take (i + 1) xs) items in
    elim c.if-branch.branch [
      | then-branch+in_ok-push w ↦
          let now = ap (λ v. map placed_value v.items) w.found-is ∙ ap (map placed_value) w.in_ok-push.ensures.items ∙ map-append placed_value c.loop-standing.found.items _ in
          subst Q (sym now) (concerned_more access known xs i x found below here (told.some w.if-branch.true) before)
      | else-branch w ↦
          subst Q (sym (ap (λ v. map placed_value v.items) w.found-is))
          (concerned_skip access known xs i x found below here (told.none w.if-branch.false) before)
    ]
