use Rattle.iam_world.specs.World.{WorldValue}
use Rattle.iam_columns.specs.Rows.{AreRows}
use Rattle.iam_columns.proofs.ColumnLemmas.{MatchBelow}
use Rattle.iam_columns.proofs.columns.tell_same.Given as goal

abbrev pub invariant-loop-row : goal.invariant-loop-row
invariant-loop-row l = (world : WorldValue) → AreRows world l.rows → MatchBelow world l.rows l.row-index l.one l.other
