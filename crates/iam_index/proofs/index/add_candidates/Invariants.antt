use Rattle.std.proofs.Common.{take}
use Rattle.iam_layers.specs.Cell.{IsAction}
use Rattle.iam_world.specs.World.{WorldValue}
use Rattle.iam_index.specs.Elements.{AreElements}
use Rattle.iam_index.specs.Index.{Adds}
use Rattle.iam_index.specs.Numbers.{AreNumbered}
use Rattle.iam_index.proofs.index.add_candidates.Given as goal

abbrev pub invariant-loop-i : goal.invariant-loop-i
invariant-loop-i l =
    (world : WorldValue) → AreElements world l.elements.elements.items → AreNumbered l.elements.elements.items l.statements l.numbers
    → IsAction world l.a l.action → Adds l.action (take l.i l.statements) l.initial.candidates.items l.candidates.items
