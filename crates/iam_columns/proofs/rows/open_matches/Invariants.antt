use Rattle.std.proofs.Common.{◌≡◌, Some, length}
use Rattle.iam_element.specs.Reading.{ResourceElement}
use Rattle.iam_match.specs.Wide.{Covers}
use Rattle.iam_columns.specs.Rows.{Tell, TellsMayMatch}
use Rattle.iam_columns.proofs.rows.open_matches.Given as goal

abbrev pub invariant-loop-r : goal.invariant-loop-r
invariant-loop-r l = record {
  count : length l.matches.items ≡ l.r;
  are : (element : ResourceElement) → Covers l.wide element → Tell (TellsMayMatch l.world (Some element)) l.matches.items;
}
