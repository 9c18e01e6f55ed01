use Rattle.std.proofs.Common.{◌≡◌, length}
use Rattle.iam_index.specs.Elements.{AreKept}
use Rattle.iam_index.specs.Index.{AreLists, ListsRequester}
use Rattle.iam_index.proofs.lists.requester_lists.Given as goal

abbrev pub invariant-loop-p : goal.invariant-loop-p
invariant-loop-p l = record {
  right : AreKept l.world l.elements;
  count : length l.lists.items ≡ l.p;
  are : AreLists (ListsRequester l.world) l.lists.items;
}
