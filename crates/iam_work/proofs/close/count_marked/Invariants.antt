use Rattle.std.proofs.Common.{◌≡◌, ◌≤◌}
use Rattle.std.specs.Mem.Slots.{slots_items}
use Rattle.iam_work.specs.Code.Closing.{set_below}
use Rattle.iam_work.proofs.close.count_marked.Given as goal

abbrev pub invariant-loop-grain : goal.invariant-loop-grain
invariant-loop-grain l = record {
  few : l.marked ≤ l.grain;
  counted : l.marked ≡ set_below l.grain (slots_items l.closed.words);
}
