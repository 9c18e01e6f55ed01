use Rattle.std.proofs.Common.{◌≡◌, map, take}
use Rattle.iam_row.specs.Piece.{resource_piece}
use Rattle.iam_row.proofs.quoted.resources.Given as goal

abbrev pub invariant-loop-r : goal.invariant-loop-r
invariant-loop-r l = l.texts.items ≡ map (λ resource. resource_piece l.format resource.arn) (take l.r l.world.resources)
