use Rattle.std.proofs.Common.{◌≡◌, map, take}
use Rattle.iam_layers.specs.Cell.{principal_text}
use Rattle.iam_row.specs.Piece.{principal_piece}
use Rattle.iam_row.proofs.quoted.principals.Given as goal

abbrev pub invariant-loop-p : goal.invariant-loop-p
invariant-loop-p l = l.texts.items ≡ map (λ principal. principal_piece l.format (principal_text principal)) (take l.p l.world.principals)
