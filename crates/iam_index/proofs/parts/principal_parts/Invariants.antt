use Rattle.std.proofs.Common.{◌≡◌, length}
use Rattle.iam_index.specs.Parts.{AreAt, GivesPrincipal}
use Rattle.iam_index.proofs.parts.principal_parts.Given as goal

abbrev pub invariant-loop-p : goal.invariant-loop-p
invariant-loop-p l = record {
  count : length l.parts.items ≡ l.p;
  are : AreAt (GivesPrincipal l.world) l.parts.items;
}
