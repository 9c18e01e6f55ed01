use Rattle.std.proofs.Common.{◌∷◌, [], ◌∙◌, ap, map, string_bytes}
use Rattle.std.proofs.lemmas.List.{map-append}
use Rattle.iam_every.proofs.MeantLemmas.{take_next}
use Rattle.iam_every.proofs.meant.world_actions.Goals as goal

pub loop-a-preserved : goal.loop-a-preserved
loop-a-preserved c =
    let all = c.loop-a.actions.items in
    let text = c.in_ok-from_str.field-0 in
    ap (map string_bytes) c.in_ok-push.ensures.items ∙ map-append string_bytes all (text ∷ [])
    ∙ take_next c.args.world.now.actions (map string_bytes all) c.loop-a.a c.action_text.result.now (string_bytes text) c.loop-a.invariant
    c.action_text.ensures c.in_ok-from_str.ensures.ok
