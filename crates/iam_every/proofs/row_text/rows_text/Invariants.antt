use Rattle.std.proofs.Common.{◌≡◌, ◌+◌, string_bytes, take}
use Rattle.iam_every.specs.Report.{rows_text}
use Rattle.iam_every.specs.Code.Texts.{named_rows}
use Rattle.iam_every.proofs.row_text.rows_text.Given as goal

abbrev pub invariant-loop-row : goal.invariant-loop-row
invariant-loop-row l = record {
  cell : l.cell ≡ l.first + l.row-index;
  text : string_bytes l.text ≡ rows_text l.format l.brief l.first (named_rows l.principal (take l.row-index l.rows));
}
