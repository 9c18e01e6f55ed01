use Rattle.std.proofs.Common.{ℕ, map, take}
use Rattle.iam_context.specs.Context.{ContextValue}
use Rattle.iam_match.specs.Request.{access_of}
use Rattle.iam_decision.specs.Code.Scan.{placed_value}
use Rattle.iam_decision.specs.Living.{living_value}
use Rattle.iam_layers.specs.Cell.{IsContextAt}
use Rattle.iam_living.specs.Living.{AddsLiving}
use Rattle.iam_living.specs.Marks.{AreMarks}
use Rattle.iam_living.proofs.walk.add_known.Given as goal

abbrev pub invariant-loop-i : goal.invariant-loop-i
invariant-loop-i l = record {
  living : AddsLiving (access_of l.access) (map placed_value (take l.i l.statements)) (map living_value l.initial.living.items) (map living_value l.living.items);
  told : (p : ℕ) (derived : ContextValue) → IsContextAt l.known.world p l.r derived l.access.context.now
      → AreMarks l.known.world p derived (map placed_value l.known.statements) l.initial.told.items
      → AreMarks l.known.world p derived (map placed_value l.known.statements) l.told.items;
}
