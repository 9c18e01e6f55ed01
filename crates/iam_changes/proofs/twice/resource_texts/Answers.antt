use Rattle.std.proofs.Common.{List, [], ◌∷◌, ℕ, Bor, map, ap, ◌∙◌}
use Rattle.iam_world.specs.World.{ResourceValue}
use Rattle.std.proofs.lemmas.List.{map-append}
use Rattle.iam_changes.proofs.TwiceTexts.{one_more}
use Rattle.iam_changes.proofs.twice.resource_texts.Goals as goal

pub loop-r-preserved : goal.loop-r-preserved
loop-r-preserved c =
    let now : Bor (List ℕ) → List ℕ = λ text. text.now in
    let (resource, at, e) = c.resource_text.ensures in
    ap (map now) c.in_ok-push.ensures.items ∙ map-append now c.loop-r.texts.items (c.resource_text.result ∷ [])
    ∙ one_more (λ (x : ResourceValue). x.arn) c.args.world.now.resources (map now c.loop-r.texts.items) c.loop-r.r resource c.resource_text.result.now c.loop-r.invariant at e
