use Rattle.std.proofs.Common.{All, map, string_bytes, take}
use Rattle.std.specs.List.{AllZip}
use Rattle.iam_every.specs.Code.Acting.{IsActing}
use Rattle.iam_every.specs.Code.Rows.{AreWalksOf}
use Rattle.iam_every.specs.Code.Told.{IsTold}
use Rattle.iam_every.specs.Every.{every_of}
use Rattle.iam_every.specs.declared.told.About.TheVariants.{Resource}
use Rattle.iam_every.proofs.rows.told_of_named.Given as goal

abbrev pub invariant-loop-i : goal.invariant-loop-i
invariant-loop-i l = record {
  walks : AreWalksOf l.given.asked.world.now l.walks;
  acting : All (IsActing (map string_bytes l.actions)) l.acting.known.items;
  named : AllZip (λ r told. IsTold (every_of l.given.asked) l.given.p (Resource r) (map string_bytes l.actions) told)
      (take l.i l.given.matched.now) l.named.items;
}
