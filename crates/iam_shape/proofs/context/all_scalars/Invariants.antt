use Rattle.std.proofs.Common.{◌≡◌, map, drop}
use Rattle.std.specs.List.{list_all}
use Rattle.serde_json.specs.View.{view}
use Rattle.iam_json.specs.Scalar.{is_scalar}
use Rattle.iam_shape.proofs.context.all_scalars.Given as goal

-- what is left decides
abbrev pub invariant-loop-value : goal.invariant-loop-value
invariant-loop-value l = list_all is_scalar (map view l.list) ≡ list_all is_scalar (map view (drop l.value-index l.list))
