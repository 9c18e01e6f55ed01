use Rattle.std.proofs.Common.{map}
use Rattle.std.specs.List.{range_with_len}
use Rattle.iam_every.specs.Code.Rows.{AreWalksOf, IsLinedBelow}
use Rattle.iam_every.specs.Every.{every_of}
use Rattle.iam_open_every.specs.Code.Spots.{AreSpotsOn}
use Rattle.iam_open_every.specs.Made.{AreJoined, AreOfLine}
use Rattle.iam_open_every.specs.Spots.{spot_of}
use Rattle.iam_open_every.proofs.spots.lined_spots.Given as goal

abbrev pub invariant-loop-k : goal.invariant-loop-k
invariant-loop-k l = record {
  walks : AreWalksOf l.given.asked.world.now l.walks;
  spots : AreSpotsOn (every_of l.given.asked) l.given.p (IsLinedBelow (every_of l.given.asked) l.k) (map spot_of l.spots.items);
  made : AreJoined (AreOfLine (every_of l.given.asked) l.given.p) (range_with_len 0 l.k) (map spot_of l.spots.items);
}
