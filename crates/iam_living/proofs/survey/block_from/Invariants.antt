use Rattle.std.proofs.Common.{◌≡◌, ◌+◌, All, length}
use Rattle.iam_living.specs.Keys.{AreKeys}
use Rattle.iam_living.specs.Survey.{AreClassesOf}
use Rattle.iam_living.proofs.survey.block_from.Given as goal

-- the pairs so far
abbrev pub invariant-loop-pair : goal.invariant-loop-pair
invariant-loop-pair l = record {
  keys : All (AreKeys l.index) l.keys.items;
  count : l.from + length l.numbers.items ≡ l.pair;
  are : AreClassesOf l.index l.from l.classes.items l.numbers.items;
}
