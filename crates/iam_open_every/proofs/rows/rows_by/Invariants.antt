use Rattle.std.proofs.Common.{map, string_bytes, take}
use Rattle.iam_every.specs.Every.{every_of}
use Rattle.iam_open_every.specs.Made.{AreJoined, AreOfAction}
use Rattle.iam_open_every.specs.Row.{row_of}
use Rattle.iam_open_every.specs.Spots.{spot_of}
use Rattle.iam_open_every.proofs.rows.rows_by.Given as goal

abbrev pub invariant-loop-action : goal.invariant-loop-action
invariant-loop-action l =
    AreJoined (AreOfAction l.brief (every_of l.given.asked) l.given.p (map spot_of l.spots)) (take l.action-index (map string_bytes l.actions))
    (map row_of l.rows.items)
