use Rattle.std.proofs.Common.{◌≡◌, length}
use Rattle.iam_index.specs.Numbers.{AreAllNumbered}
use Rattle.iam_index.specs.declared.lists.Listed.{Listed}
use Rattle.iam_index.proofs.numbers.list_numbers.Given as goal

abbrev pub invariant-loop-listed : goal.invariant-loop-listed
invariant-loop-listed l = record {
  count : length l.known.items ≡ l.listed-index;
  are : AreAllNumbered (λ (listed : Listed). listed.statements.items) l.elements.elements.items l.lists l.known.items;
}
