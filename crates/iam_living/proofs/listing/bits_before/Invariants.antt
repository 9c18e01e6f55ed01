use Rattle.std.proofs.Common.{ℕ, map, drop}
use Rattle.iam_context.specs.Context.{ContextValue}
use Rattle.iam_match.specs.Request.{access_of}
use Rattle.iam_decision.specs.Code.Scan.{placed_value}
use Rattle.iam_layers.specs.Cell.{IsContextAt}
use Rattle.iam_living.specs.Marks.{AreMarks}
use Rattle.iam_living.specs.Word.{GoesBefore}
use Rattle.iam_living.proofs.listing.bits_before.Given as goal

abbrev pub invariant-loop-i : goal.invariant-loop-i
invariant-loop-i l = record {
  word : GoesBefore (access_of l.access) (map placed_value (drop l.i l.known.statements)) l.behind l.word;
  told : (p : ℕ) (derived : ContextValue) → IsContextAt l.known.world p l.r derived l.access.context.now
      → AreMarks l.known.world p derived (map placed_value l.known.statements) l.initial.told.items
      → AreMarks l.known.world p derived (map placed_value l.known.statements) l.told.items;
}
