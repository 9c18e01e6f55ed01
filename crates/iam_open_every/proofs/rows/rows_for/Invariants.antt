use Rattle.std.proofs.Common.{map, string_bytes, take}
use Rattle.std.specs.Arc.{arc_value}
use Rattle.iam_every.specs.Every.{every_of}
use Rattle.iam_open_every.specs.Made.{AreOfAction}
use Rattle.iam_open_every.specs.Row.{row_of}
use Rattle.iam_open_every.specs.Spots.{spot_of}
use Rattle.iam_open_every.proofs.rows.rows_for.Given as goal

abbrev pub invariant-loop-spot : goal.invariant-loop-spot
invariant-loop-spot l =
    AreOfAction l.brief (every_of l.given.asked) l.given.p (take l.spot-index (map spot_of l.spots)) (string_bytes (arc_value l.action))
    (map row_of l.rows.items)
