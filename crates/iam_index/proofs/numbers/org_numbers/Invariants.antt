use Rattle.std.proofs.Common.{◌≡◌, length}
use Rattle.iam_index.specs.Numbers.{AreAllNumbered}
use Rattle.iam_index.specs.declared.lists.Org.{Org}
use Rattle.iam_index.proofs.numbers.org_numbers.Given as goal

abbrev pub invariant-loop-org : goal.invariant-loop-org
invariant-loop-org l = record {
  count : length l.known.items ≡ l.org-index;
  are : AreAllNumbered (λ (org : Org). org.statements.items) l.elements.elements.items l.orgs l.known.items;
}
