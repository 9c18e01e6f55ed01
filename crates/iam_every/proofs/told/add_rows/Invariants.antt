use Rattle.std.proofs.Common.{◌≡◌, ◌++◌, map, string_bytes, take}
use Rattle.iam_every.specs.Code.Told.{row_as}
use Rattle.iam_every.specs.Every.{row_of}
use Rattle.std.specs.Arc.{arc_value}
use Rattle.iam_every.proofs.told.add_rows.Given as goal

abbrev pub invariant-loop-said : goal.invariant-loop-said
invariant-loop-said l = map row_of l.rows.items ≡ map row_of l.initial.rows.items ++ map (row_as (string_bytes (arc_value l.action))) (take l.said-index l.said-items)
