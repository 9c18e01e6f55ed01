use Rattle.std.proofs.Common.{◌≡◌, [], take}
use Rattle.std.specs.List.{flat_map}
use Rattle.iam_selection.proofs.list.lead_in.Given as goal

-- the tiles so far have no rows
abbrev pub invariant-loop-tile : goal.invariant-loop-tile
invariant-loop-tile l = flat_map (λ tile. tile) (take l.tile-index l.tiles) ≡ []
