use Rattle.std.proofs.Common.{◌∷◌, [], ◌++◌, ◌∙◌, ℕ, Bor, List, append_assoc, ap, map, refl, take}
use Rattle.std.proofs.lemmas.List.{map-append}
use Rattle.iam_every.proofs.MeantLemmas.{take_next}
use Rattle.iam_every_changes.proofs.actions.add_actions.Goals as goal

pub loop-a-preserved : goal.loop-a-preserved
loop-a-preserved c =
    let now : Bor (List ℕ) → List ℕ = λ text. text.now in
    let old = map now c.args.texts.now.items in
    let actions = c.args.world.now.actions in
    let a = c.loop-a.a in
    let text = c.action_text.result in
    ap (map now) c.in_ok-push.ensures.items ∙ map-append now c.loop-a.texts.items (text ∷ []) ∙ ap (λ l. l ++ (text.now ∷ [])) c.loop-a.invariant
    ∙ append_assoc old (take a actions) (text.now ∷ [])
    ∙ ap (λ l. old ++ l) (take_next actions (take a actions) a text.now text.now refl c.action_text.ensures refl)
