use Rattle.std.proofs.Common.{◌≡◌, ◌≤◌, length, take}
use Rattle.iam_open_every.specs.Code.Texts.{rows_in}
use Rattle.iam_open_every.proofs.report.are_few.Given as goal

abbrev pub invariant-loop-chosen : goal.invariant-loop-chosen
invariant-loop-chosen l = record {
  count : l.count ≡ length (rows_in (take l.chosen-index l.all));
  few : l.count ≤ 16777216;
}
