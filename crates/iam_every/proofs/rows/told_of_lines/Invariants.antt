use Rattle.std.proofs.Common.{All, map, string_bytes}
use Rattle.std.specs.List.{AllZip, range_with_len}
use Rattle.iam_every.specs.Code.Acting.{IsActing}
use Rattle.iam_every.specs.Code.Rows.{AreWalksOf}
use Rattle.iam_every.specs.Code.Told.{IsTold}
use Rattle.iam_every.specs.Every.{every_of}
use Rattle.iam_every.specs.declared.told.About.TheVariants.{Line}
use Rattle.iam_every.proofs.rows.told_of_lines.Given as goal

abbrev pub invariant-loop-k : goal.invariant-loop-k
invariant-loop-k l = record {
  walks : AreWalksOf l.given.asked.world.now l.walks;
  acting : All (IsActing (map string_bytes l.actions)) l.acting.known.items;
  lined : AllZip (λ k told. IsTold (every_of l.given.asked) l.given.p (Line k) (map string_bytes l.actions) told) (range_with_len 0 l.k) l.lined.items;
}
