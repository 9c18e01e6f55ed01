use Rattle.std.proofs.Common.{◌≡◌, length}
use Rattle.iam_index.specs.Numbers.{AreNumbered}
use Rattle.iam_index.proofs.numbers.numbers_of.Given as goal

abbrev pub invariant-loop-standing : goal.invariant-loop-standing
invariant-loop-standing l = record {
  count : length l.numbers.items ≡ l.standing-index;
  are : AreNumbered l.elements.elements.items l.statements l.numbers.items;
}
