use Rattle.std.proofs.Common.{All, map, string_bytes, take}
use Rattle.std.specs.List.{AllZip}
use Rattle.iam_every.specs.Code.Rows.{AreWalksOf}
use Rattle.iam_every.specs.Code.Told.{IsKnown, IsLived, IsNumberFor}
use Rattle.iam_every.specs.Every.{every_of}
use Rattle.iam_every.proofs.told.told_in.Given as goal

abbrev pub invariant-loop-i : goal.invariant-loop-i
invariant-loop-i l = record {
  walks : AreWalksOf l.given.asked.world.now l.walks;
  known : All (IsKnown (every_of l.given.asked) l.given.p l.about l.scene) l.memo.known.items;
  lived : All (IsLived l.scene) l.memo.lived.items;
  numbers : AllZip (IsNumberFor (every_of l.given.asked) l.given.p l.about l.memo.known.items) (map string_bytes (take l.i l.actions))
      l.numbers.items;
}
