use Rattle.std.proofs.Common.{◌≡◌, ◌≤◌, length, take}
use Rattle.iam_every_changes.specs.Code.Told.{kept_in}
use Rattle.iam_every_changes.proofs.report.are_few.Given as goal

abbrev pub invariant-loop-looked : goal.invariant-loop-looked
invariant-loop-looked l = record {
  count : l.count ≡ length (kept_in (take l.looked-index l.all));
  few : l.count ≤ 16777216;
}
