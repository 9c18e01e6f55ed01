use Rattle.std.proofs.Common.{◌≡◌, ◌+◌, ◌++◌, ◌∷◌, [], List, map, take, ap, sym, subst, ◌∙◌}
use Rattle.std.proofs.lemmas.List.{map-append, take_more}
use Rattle.iam_decision.specs.Code.Scan.{placed_value}
use Rattle.iam_decision.specs.Living.{AreCandidates}
use Rattle.iam_decision.specs.Matched.{Placed}
use Rattle.iam_decision.specs.declared.scan.Standing.{Standing}
use Rattle.iam_index.specs.Elements.{MatchesNone}
use Rattle.iam_index.specs.Index.{AreListed}
use Rattle.iam_index.proofs.IndexLemmas.{candidates_more, candidates_skip}
use Rattle.iam_index.proofs.lists.concerned.Goals as goal
use Rattle.iam_index.proofs.lists.concerned.Goals.{then-concerns+in_ok-push, else-concerns}

pub loop-standing-preserved : goal.loop-standing-preserved
loop-standing-preserved c =
    let world = c.args.world.now in
    let statements = c.args.statements.now in
    let i = c.loop-standing.standing-index in
    let x = c.standing-item.result in
    let old = c.loop-standing.listed.items in
    let before : List Placed = map placed_value (take i statements) in
    let more : take (i + 1) statements ≡ take i statements ++ (x ∷ []) =
    take_more statements i x c.loop-standing-test.true ∙ ap (λ (y : Standing). take i statements ++ (y ∷ [])) (sym c.standing-item.is) in
    let one_more : before ++ (placed_value x ∷ []) ≡ map placed_value (take (i + 1) statements) =
    sym (ap (map placed_value) more ∙ map-append placed_value (take i statements) (x ∷ [])) in
    let P : List Standing → Type 0 = AreListed world (map placed_value (take (i + 1) statements)) in
    let listed : P c.if-concerns.listed.items =
    elim c.if-concerns.branch [
      | then-concerns+in_ok-push w ↦
          let items : c.if-concerns.listed.items ≡ old ++ (x ∷ []) = ap (λ v. v.items) w.listed-is ∙ w.in_ok-push.ensures.items in
          let A : List Placed → Type 0 = λ z. AreCandidates world.actions z (map placed_value (old ++ (x ∷ []))) in
          let C : List Placed → Type 0 = λ z. AreCandidates world.actions (before ++ (placed_value x ∷ [])) z in
          let added : P (old ++ (x ∷ [])) =
          subst A one_more (subst C (sym (map-append placed_value old (x ∷ [])))
          (candidates_more world.actions before (map placed_value old) (placed_value x) c.loop-standing.invariant.1)) in
          subst P (sym items) added
      | else-concerns w ↦
          let idle = c.concerns.ensures.idle w.if-concerns.false in
          let B : List Placed → Type 0 = λ z. AreListed world z old in
          let skipped = candidates_skip world.actions before (map placed_value old) (placed_value x)
          (subst (MatchesNone world) c.action.ensures idle) c.loop-standing.invariant.1 in
          subst P (sym (ap (λ v. v.items) w.listed-is)) (subst B one_more skipped)
    ] in
    (c.concerns.ensures.right, listed)
