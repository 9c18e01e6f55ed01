use Rattle.std.proofs.Common.{All, map, string_bytes, take}
use Rattle.std.specs.List.{AllZip}
use Rattle.iam_decision.specs.Code.Scan.{placed_value}
use Rattle.iam_every.specs.Code.Acting.{IsActing, IsActingFor}
use Rattle.iam_every.proofs.acting.Acting.numbers_of.Given as goal

abbrev pub invariant-loop-standing : goal.invariant-loop-standing
invariant-loop-standing l = record {
  known : All (IsActing (map string_bytes l.actions)) l.self.known.items;
  numbers : AllZip (IsActingFor l.self.known.items) (map placed_value (take l.standing-index l.statements)) l.numbers.items;
}
