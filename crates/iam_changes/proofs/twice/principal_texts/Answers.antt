use Rattle.std.proofs.Common.{List, [], ◌∷◌, ℕ, Bor, map, ap, ◌∙◌}
use Rattle.iam_layers.specs.Cell.{principal_text}
use Rattle.std.proofs.lemmas.List.{map-append}
use Rattle.iam_changes.proofs.TwiceTexts.{one_more}
use Rattle.iam_changes.proofs.twice.principal_texts.Goals as goal

pub loop-p-preserved : goal.loop-p-preserved
loop-p-preserved c =
    let now : Bor (List ℕ) → List ℕ = λ text. text.now in
    let (principal, at, e) = c.principal_text.ensures in
    ap (map now) c.in_ok-push.ensures.items ∙ map-append now c.loop-p.texts.items (c.principal_text.result ∷ [])
    ∙ one_more principal_text c.args.world.now.principals (map now c.loop-p.texts.items) c.loop-p.p principal c.principal_text.result.now c.loop-p.invariant at e
