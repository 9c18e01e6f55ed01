use Rattle.std.proofs.Common.{◌^◌, ◌-◌, ◌<◌, ℕ, List, drop, length}
use Rattle.iam_decision.specs.Living.{LivingValue}
use Rattle.iam_layers.specs.Cell.{IsAction}
use Rattle.iam_world.specs.World.{WorldValue}
use Rattle.iam_index.specs.Elements.{AreActRows, AreActs}
use Rattle.iam_index.proofs.elements.signature.Given as goal

abbrev pub invariant-loop-i : goal.invariant-loop-i
invariant-loop-i l = record {
  bound : l.word < 2 ^ (length l.rows - l.i);
  bits : (world : WorldValue) (living : List LivingValue) (text : List ℕ) → AreActRows world living l.rows → IsAction world l.a text
      → AreActs text (drop l.i living) l.word;
}
