-- The parts of a context, as it keeps them.
use Rattle.std.specs.Prelude.{List, [], ◌∷◌, map}
use Rattle.iam_context.specs.Context.{ContextValue}
use Rattle.iam_context.specs.declared.parts.Parts.{Parts}
use Rattle.iam_context.specs.declared.parts.Parts.TheVariants.{Four, Three, Any}

abbrev pub parts_of : Parts → List ContextValue
parts_of (Four four) = map (λ part. part.now.items) four.parts
parts_of (Three three) = three.first ∷ (three.second ∷ (three.third ∷ (three.derived.now.items ∷ [])))
parts_of (Any parts) = map (λ part. part.now.items) parts.items
