use Rattle.std.proofs.Common.{List, [], ◌∷◌, ℕ, Bor, map, ap, ◌∙◌}
use Rattle.std.proofs.lemmas.List.{map-append}
use Rattle.iam_changes.proofs.TwiceTexts.{take_next}
use Rattle.iam_changes.proofs.twice.action_texts.Goals as goal

pub loop-a-preserved : goal.loop-a-preserved
loop-a-preserved c =
    let now : Bor (List ℕ) → List ℕ = λ text. text.now in
    ap (map now) c.in_ok-push.ensures.items ∙ map-append now c.loop-a.texts.items (c.action_text.result ∷ [])
    ∙ take_next c.args.world.now.actions (map now c.loop-a.texts.items) c.loop-a.a c.action_text.result.now c.loop-a.invariant c.action_text.ensures
