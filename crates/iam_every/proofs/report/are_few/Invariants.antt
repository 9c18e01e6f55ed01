use Rattle.std.proofs.Common.{◌≡◌, ◌≤◌, length, take}
use Rattle.std.specs.List.{flat_map}
use Rattle.iam_every.proofs.report.are_few.Given as goal

abbrev pub invariant-loop-chosen : goal.invariant-loop-chosen
invariant-loop-chosen l = record {
  count : l.count ≡ length (flat_map (λ chosen. chosen.rows) (take l.chosen-index l.all));
  few : l.count ≤ 16777216;
}
