use Rattle.std.proofs.Common.{◌≡◌, ◌<◌, ◌≤◌, ◌+◌, ◌++◌, ◌∷◌, [], ◌∙◌, List, ap, append_assoc, arith, drop, length, map, sym}
use Rattle.std.proofs.lemmas.List.{append-nil, length-map}
use Rattle.iam_decision.specs.Code.Scan.{placed_value}
use Rattle.iam_decision.specs.Living.{item_of}
use Rattle.iam_decision.specs.Matched.{Placed}
use Rattle.iam_decision.specs.declared.living.Matched.{Matched}
use Rattle.iam_every.specs.Code.Picked.{both, picked}
use Rattle.iam_every.proofs.PickedLemmas.{both_at, picked_end, picked_more, picked_skip}
use Rattle.iam_every.proofs.WalkLemmas.{at_map}
use Rattle.iam_every.proofs.eligible.found.Goals as goal
use Rattle.iam_every.proofs.eligible.found.Goals.{then-are_both+in_ok-push, else-are_both}

pub loop-i-preserved : goal.loop-i-preserved
loop-i-preserved c =
    let statements = c.args.statements.now in
    let bits = both c.args.acts.now c.args.lives.now in
    let i = c.loop-i.i in
    let xs : List Placed = map placed_value statements in
    let item : Placed → Matched = item_of c.args.requester.now in
    let inside : i < length statements = omega (arith, c.loop-i-test.true, c.loop-i.auto.i-end) in
    let below : i < length xs = omega (arith, inside, length-map statements placed_value) in
    let found = c.loop-i.found.items in
    let rest = map item (picked (drop (i + 1) xs) (drop (i + 1) bits)) in
    let tells = both_at c.args.acts.now c.args.lives.now i ∙ sym c.are_both.ensures in
    elim c.if-are_both.branch [
      | then-are_both+in_ok-push w ↦
          let x = w.index-statements-i.result in
          let step = picked_more xs bits i (placed_value x) below (at_map placed_value statements i x inside w.index-statements-i.is) (tells ∙ w.if-are_both.true) in
          let pushed : c.if-are_both.found.items ≡ found ++ (item (placed_value x) ∷ []) =
          ap (λ v. v.items) w.found-is ∙ w.in_ok-push.ensures.items ∙ ap (λ (m : Matched). found ++ (m ∷ [])) w.matched.ensures in
          c.loop-i.invariant ∙ ap (λ (t : List Placed). found ++ map item t) step ∙ sym (append_assoc found (item (placed_value x) ∷ []) rest)
          ∙ ap (λ (t : List Matched). t ++ rest) (sym pushed)
      | else-are_both w ↦
          c.loop-i.invariant ∙ ap (λ (t : List Placed). found ++ map item t) (picked_skip xs bits i below (tells ∙ w.if-are_both.false))
          ∙ ap (λ v. v.items ++ rest) (sym w.found-is)
    ]

pub returns : goal.returns
returns c =
    let statements = c.args.statements.now in
    let bits = both c.args.acts.now c.args.lives.now in
    let xs : List Placed = map placed_value statements in
    let past : length xs ≤ c.loop-i.i = omega (arith, c.loop-i-test.false, length-map statements placed_value) in
    let found = c.loop-i.found.items in
    sym (c.loop-i.invariant ∙ ap (λ (t : List Placed). found ++ map (item_of c.args.requester.now) t) (picked_end xs bits c.loop-i.i past) ∙ append-nil found)
