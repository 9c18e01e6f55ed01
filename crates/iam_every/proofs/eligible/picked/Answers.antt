use Rattle.std.proofs.Common.{◌≡◌, ◌<◌, ◌≤◌, ◌+◌, ◌++◌, ◌∷◌, [], ◌∙◌, List, ap, append_assoc, arith, drop, length, map, sym}
use Rattle.std.proofs.lemmas.List.{append-nil, length-map, map-append}
use Rattle.iam_decision.specs.Code.Scan.{placed_value}
use Rattle.iam_decision.specs.Matched.{Placed}
use Rattle.iam_every.specs.Code.Picked.{picked}
use Rattle.iam_every.proofs.PickedLemmas.{picked_end, picked_more, picked_skip}
use Rattle.iam_every.proofs.WalkLemmas.{at_map}
use Rattle.iam_every.proofs.eligible.picked.Goals as goal
use Rattle.iam_every.proofs.eligible.picked.Goals.{then-bit_at+in_ok-push, else-bit_at}

pub loop-i-preserved : goal.loop-i-preserved
loop-i-preserved c =
    let statements = c.args.statements.now in
    let bits = c.args.bits.now in
    let i = c.loop-i.i in
    let xs : List Placed = map placed_value statements in
    let inside : i < length statements = omega (arith, c.loop-i-test.true, c.loop-i.auto.i-end) in
    let below : i < length xs = omega (arith, inside, length-map statements placed_value) in
    let chosen = map placed_value c.loop-i.chosen.items in
    let rest = picked (drop (i + 1) xs) (drop (i + 1) bits) in
    elim c.if-bit_at.branch [
      | then-bit_at+in_ok-push w ↦
          let x = w.index-statements-i.result in
          let step = picked_more xs bits i (placed_value x) below (at_map placed_value statements i x inside w.index-statements-i.is) (sym c.bit_at.ensures ∙ w.if-bit_at.true) in
          let pushed : map placed_value c.if-bit_at.chosen.items ≡ chosen ++ (placed_value x ∷ []) =
          ap (λ v. map placed_value v.items) w.chosen-is ∙ ap (map placed_value) w.in_ok-push.ensures.items ∙ map-append placed_value c.loop-i.chosen.items _ in
          c.loop-i.invariant ∙ ap (λ (t : List Placed). chosen ++ t) step ∙ sym (append_assoc chosen (placed_value x ∷ []) rest)
          ∙ ap (λ (t : List Placed). t ++ rest) (sym pushed)
      | else-bit_at w ↦
          c.loop-i.invariant ∙ ap (λ (t : List Placed). chosen ++ t) (picked_skip xs bits i below (sym c.bit_at.ensures ∙ w.if-bit_at.false))
          ∙ ap (λ v. map placed_value v.items ++ rest) (sym w.chosen-is)
    ]

pub returns : goal.returns
returns c =
    let statements = c.args.statements.now in
    let xs : List Placed = map placed_value statements in
    let past : length xs ≤ c.loop-i.i = omega (arith, c.loop-i-test.false, length-map statements placed_value) in
    let chosen = map placed_value c.loop-i.chosen.items in
    sym (c.loop-i.invariant ∙ ap (λ (t : List Placed). chosen ++ t) (picked_end xs c.args.bits.now c.loop-i.i past) ∙ append-nil chosen)
