use Rattle.std.proofs.Common.{◌≡◌, length}
use Rattle.iam_index.specs.Elements.{AreKept}
use Rattle.iam_index.specs.Index.{AreOrgs, HaveOrgs}
use Rattle.iam_index.proofs.lists.org_lists.Given as goal

abbrev pub invariant-loop-p : goal.invariant-loop-p
invariant-loop-p l = record {
  right : AreKept l.world l.elements;
  orgs : AreOrgs l.world l.orgs.items;
  count : length l.numbers.items ≡ l.p;
  have : HaveOrgs l.world l.orgs.items l.numbers.items;
}
