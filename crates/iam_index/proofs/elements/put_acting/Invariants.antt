use Rattle.std.proofs.Common.{map, take}
use Rattle.iam_decision.specs.Living.{AreActing, living_value}
use Rattle.iam_layers.specs.Cell.{IsAction}
use Rattle.iam_world.specs.World.{WorldValue}
use Rattle.iam_index.specs.Elements.{AreActRows}
use Rattle.iam_index.proofs.elements.put_acting.Given as goal

abbrev pub invariant-loop-i : goal.invariant-loop-i
invariant-loop-i l =
    (world : WorldValue) → AreActRows world (map living_value l.living) l.rows → IsAction world l.a l.text
    → AreActing l.text (take l.i (map living_value l.living)) l.found.items
