use Rattle.std.proofs.Common.{map, take}
use Rattle.std.specs.List.{AllZip}
use Rattle.iam_every.specs.Code.Rows.{IsNamedAmong}
use Rattle.iam_every.specs.Every.{every_of}
use Rattle.iam_open_every.specs.Code.Spots.{AreSpotsOn}
use Rattle.iam_open_every.specs.Made.{IsOfResource}
use Rattle.iam_open_every.specs.Spots.{spot_of}
use Rattle.iam_open_every.proofs.spots.named_spots.Given as goal

abbrev pub invariant-loop-i : goal.invariant-loop-i
invariant-loop-i l = record {
  spots : AreSpotsOn (every_of l.given.asked) l.given.p (IsNamedAmong (every_of l.given.asked) (take l.i l.given.matched.now)) (map spot_of l.spots.items);
  made : AllZip (IsOfResource (every_of l.given.asked)) (take l.i l.given.matched.now) (map spot_of l.spots.items);
}
