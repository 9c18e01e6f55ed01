use Rattle.std.proofs.Common.{◌≡◌, ◌+◌, ◌++◌, drop, string_bytes}
use Rattle.iam_open_every.specs.Report.{rows_text}
use Rattle.iam_open_every.specs.Code.Texts.{named_rows}
use Rattle.iam_open_every.proofs.row_text.rows_text.Given as goal

-- the rows so far, and those that are left
abbrev pub invariant-loop-row : goal.invariant-loop-row
invariant-loop-row l = record {
  cell : l.cell ≡ l.first + l.row-index;
  text : rows_text l.format l.brief l.first (named_rows l.principal l.rows)
      ≡ string_bytes l.text ++ rows_text l.format l.brief l.cell (named_rows l.principal (drop l.row-index l.rows));
}
