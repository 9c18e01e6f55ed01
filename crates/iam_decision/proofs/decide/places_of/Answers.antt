use Rattle.std.proofs.Common.{◌≡◌, ◌∷◌, [], ◌++◌, get_or, sym, ◌∙◌, ap}
use Rattle.std.proofs.lemmas.List.{map-append}
use Rattle.iam_policy.specs.declared.effect.Effect.TheVariants.{Allow}
use Rattle.iam_match.specs.declared.principal.Grant.TheVariants.{None}
use Rattle.iam_decision.specs.declared.place.Layer.TheVariants.{Org}
use Rattle.iam_decision.specs.declared.living.Matched.{Matched}
use Rattle.iam_decision.proofs.ScanLemmas.{select_more, select_skip}
use Rattle.iam_decision.proofs.decide.places_of.Goals as goal
use Rattle.iam_decision.proofs.decide.places_of.Goals.{then-has_effect+in_ok-push, else-has_effect}

pub loop-matched-preserved : goal.loop-matched-preserved
loop-matched-preserved c =
    let P = λ (m : Matched). m.effect ≡ c.args.effect in
    let xs = c.args.found.now in
    let i = c.loop-matched.matched-index in
    let d : Matched = record { place = record { layer = Org; level = 0; policy = 0; statement = 0 }; effect = Allow; grant = None } in
    let kept = c.loop-matched.invariant.0 in
    elim c.if-has_effect.branch [
      | then-has_effect+in_ok-push w ↦ (
        kept ++ (get_or xs i d ∷ []),
        select_more P xs i d kept c.loop-matched-test.true c.loop-matched.invariant.1 (c.has_effect.ensures.0 w.if-has_effect.true),
        (
            ap (λ v. v.items) w.places-is ∙ w.in_ok-push.ensures.items
            ∙ ap (λ ps. ps ++ ((get_or xs i d).place ∷ [])) c.loop-matched.invariant.2
            ∙ sym (map-append (λ (m : Matched). m.place) kept (get_or xs i d ∷ []))
            ),
      )
      | else-has_effect w ↦ (
        kept,
        select_skip P xs i d kept c.loop-matched-test.true c.loop-matched.invariant.1 (λ p. let holds = c.has_effect.ensures.1 p in let wrong : ⊥ = cc in wrong),
        ap (λ v. v.items) w.places-is ∙ c.loop-matched.invariant.2,
      )
    ]
