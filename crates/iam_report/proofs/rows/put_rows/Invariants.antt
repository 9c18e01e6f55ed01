use Rattle.std.proofs.Common.{◌≡◌, ◌+◌, ◌-◌, ◌≤◌, ◌++◌, length, take}
use Rattle.iam_report.specs.Code.Buffer.{IsWithin, PutsRows}
use Rattle.iam_tiles.specs.Code.Numbered.{no_tail, picked}
use Rattle.iam_report.proofs.rows.put_rows.Given as goal

-- the rows so far
abbrev pub invariant-loop-i : goal.invariant-loop-i
invariant-loop-i g l = record {
  puts :
      PutsRows l.quoted (take l.i (picked no_tail l.tails l.numbers)) l.initial.at l.at (g.W.Write.contents l.initial.writer) (g.W.Write.contents l.writer)
      (l.initial.kept.items ++ l.initial.block) (l.kept.items ++ l.block);
  quoted : l.line.quoted ≡ l.quoted;
  tails : l.line.tails ≡ l.tails;
  within : IsWithin l.at;
  cell : l.at.cell ≡ l.initial.at.cell + l.i;
  most : l.i ≤ length l.numbers;
}

abbrev pub decreases-loop-i : goal.decreases-loop-i
decreases-loop-i g l = length l.numbers - l.i
