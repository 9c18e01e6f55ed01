use Rattle.std.proofs.Common.{◌≡◌}
use Rattle.std.specs.List.{flat_map}
use Rattle.iam_matrix.proofs.cells.joined.Given as goal

abbrev pub invariant-loop-entries : goal.invariant-loop-entries
invariant-loop-entries g l = l.all.items ≡ flat_map (λ tile. tile.items) l.yielded
