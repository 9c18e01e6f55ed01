use Rattle.std.proofs.Common.{◌≡◌, ◌<◌, ◌+◌, List, length, map, take, sym, ◌∙◌, ap, subst, arith}
use Rattle.std.proofs.lemmas.List.{length-map}
use Rattle.iam_decision.specs.Living.{Acts, AreActing, LivingValue, living_value}
use Rattle.iam_decision.specs.declared.living.Matched.{Matched}
use Rattle.iam_decision.proofs.ScanLemmas.{acting_more, acting_skip, at_map}
use Rattle.iam_decision.proofs.living.acting.Goals as goal
use Rattle.iam_decision.proofs.living.acting.Goals.{then-action_matches+in_ok-push, else-action_matches}

pub loop-statement-preserved : goal.loop-statement-preserved
loop-statement-preserved c =
    let action = c.args.action.now in
    let living = c.args.living.now in
    let xs : List LivingValue = map living_value living in
    let i = c.loop-statement.statement-index in
    let x : LivingValue = living_value c.statement-item.result in
    let found = c.loop-statement.found.items in
    let inside : i < length living = c.loop-statement-test.true in
    let long : length xs ≡ length living = length-map living living_value in
    let below : i < length xs = omega (arith, long, inside) in
    let here = at_map living_value living i c.statement-item.result inside c.statement-item.is in
    let before = c.loop-statement.invariant in
    let Q : List Matched → Type 0 = λ items. AreActing action (take (i + 1) xs) items in
    elim c.if-action_matches.branch [
      | then-action_matches+in_ok-push w ↦
          let acts = c.action_matches.ensures.0 w.if-action_matches.true in
          subst Q (sym (ap (λ v. v.items) w.found-is ∙ w.in_ok-push.ensures.items)) (acting_more action xs i x found below here before acts)
      | else-action_matches w ↦
          let idle : ¬ Acts action x = λ acts. let yes = c.action_matches.ensures.1 acts in let no = w.if-action_matches.false in let wrong : ⊥ = cc in wrong in
          subst Q (sym (ap (λ v. v.items) w.found-is)) (acting_skip action xs i x found below here before idle)
    ]
