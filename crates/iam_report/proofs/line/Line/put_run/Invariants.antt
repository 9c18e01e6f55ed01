use Rattle.std.proofs.Common.{◌≡◌, take}
use Rattle.iam_report.specs.Code.Run.{AddsRows, IsBefore, behind_in, further}
use Rattle.iam_tiles.specs.Code.Numbered.{no_tail, picked}
use Rattle.iam_report.proofs.line.Line.put_run.Given as goal

-- the rows so far
abbrev pub invariant-loop-i : goal.invariant-loop-i
invariant-loop-i g l = record {
  quoted : l.self.quoted ≡ l.initial.self.quoted;
  tails : l.self.tails ≡ l.initial.self.tails;
  before : IsBefore l.self (further l.at l.i);
  rows :
      AddsRows l.initial.self.quoted (picked no_tail l.initial.self.tails (take l.i l.numbers)) l.at (behind_in l.initial.self.quoted l.at l.i) l.initial.block
      l.block;
}
