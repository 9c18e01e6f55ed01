use Rattle.std.proofs.Common.{map, take}
use Rattle.iam_decision.specs.Living.{living_value}
use Rattle.iam_world.specs.World.{WorldValue}
use Rattle.iam_index.specs.Elements.{AreActRows, AreElements}
use Rattle.iam_index.proofs.elements.Elements.rows.Given as goal

abbrev pub invariant-loop-statement : goal.invariant-loop-statement
invariant-loop-statement l =
    (world : WorldValue) → AreElements world l.self.elements.items
    → AreActRows world (take l.statement-index (map living_value l.living)) l.rows.items
