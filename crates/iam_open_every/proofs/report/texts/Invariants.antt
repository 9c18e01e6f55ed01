use Rattle.std.proofs.Common.{◌≡◌, ◌+◌, ◌<◌, ◌≤◌, ◌++◌, All, length, string_bytes}
use Rattle.std.specs.List.{flat_map}
use Rattle.iam_open_every.specs.Code.Texts.{all_rows, rows_in}
use Rattle.iam_open_every.specs.Report.{rows_text}
use Rattle.iam_open_every.proofs.report.texts.Given as goal

-- the texts so far, and the rows that are left
abbrev pub invariant-loop-chosen : goal.invariant-loop-chosen
invariant-loop-chosen l = record {
  known : All (λ chosen. chosen.principal < length l.world.principals) l.chosen-iterator.rest.items;
  few : l.first + length (rows_in l.chosen-iterator.rest.items) ≤ 16777216;
  texts : rows_text l.format l.brief 0 (all_rows l.world l.fn.all.items)
      ≡ flat_map string_bytes l.texts.items ++ rows_text l.format l.brief l.first (all_rows l.world l.chosen-iterator.rest.items);
}
