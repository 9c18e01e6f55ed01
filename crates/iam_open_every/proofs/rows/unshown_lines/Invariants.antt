use Rattle.std.proofs.Common.{◌≡◌, map, take}
use Rattle.iam_every.specs.Every.{line_of}
use Rattle.iam_open_every.specs.Made.{unshown_row}
use Rattle.iam_open_every.specs.Row.{row_of}
use Rattle.iam_open_every.proofs.rows.unshown_lines.Given as goal

abbrev pub invariant-loop-line : goal.invariant-loop-line
invariant-loop-line l = map row_of l.rows.items ≡ map (unshown_row l.actions) (map line_of (take l.line-index l.lines))
