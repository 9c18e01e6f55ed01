use Rattle.std.proofs.Common.{◌≡◌, length}
use Rattle.iam_index.specs.Elements.{AreKept}
use Rattle.iam_index.specs.Index.{AreResourceLists}
use Rattle.iam_index.proofs.lists.resource_lists.Given as goal

abbrev pub invariant-loop-r : goal.invariant-loop-r
invariant-loop-r l = record {
  right : AreKept l.world l.elements;
  count : length l.numbers.items ≡ l.r;
  are : AreResourceLists l.world l.lists.items l.numbers.items;
}
