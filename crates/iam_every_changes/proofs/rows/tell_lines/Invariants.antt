use Rattle.std.proofs.Common.{◌≡◌, map, take}
use Rattle.iam_every.specs.Every.{line_of}
use Rattle.iam_every_changes.specs.Code.Looked.{Adds}
use Rattle.iam_every_changes.specs.Made.{unshown_row}
use Rattle.iam_every_changes.proofs.rows.tell_lines.Given as goal

abbrev pub invariant-loop-line : goal.invariant-loop-line
invariant-loop-line l =
    Adds l.fn.looked (λ rows. rows ≡ map (unshown_row l.actions) (map line_of (take l.line-index l.lines))) l.looked
