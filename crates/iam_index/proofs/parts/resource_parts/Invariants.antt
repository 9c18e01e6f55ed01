use Rattle.std.proofs.Common.{◌≡◌, length}
use Rattle.iam_index.specs.Parts.{AreAt, GivesResource}
use Rattle.iam_index.proofs.parts.resource_parts.Given as goal

abbrev pub invariant-loop-r : goal.invariant-loop-r
invariant-loop-r l = record {
  count : length l.parts.items ≡ l.r;
  are : AreAt (GivesResource l.world) l.parts.items;
}
