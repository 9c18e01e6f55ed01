use Rattle.std.proofs.Common.{◌≡◌, ◌++◌, map, drop}
use Rattle.std.specs.List.{filter_map}
use Rattle.serde_json.specs.View.{view}
use Rattle.iam_json.specs.Scalar.{scalar_text}
use Rattle.iam_world_context.proofs.contexts.scalar_texts.Given as goal

-- the texts so far, and those of what is left
abbrev pub invariant-loop-value : goal.invariant-loop-value
invariant-loop-value l =
    filter_map scalar_text (map view l.values) ≡ l.texts.items ++ filter_map scalar_text (map view (drop l.value-index l.values))
