use Rattle.iam_layers.specs.Cell.{IsDecisionAt}
use Rattle.iam_matrix.specs.Code.Tiles.{Adds}
use Rattle.iam_matrix.proofs.said.put_decided.Given as goal

-- the cells so far
abbrev pub invariant-loop-i : goal.invariant-loop-i
invariant-loop-i l = Adds (IsDecisionAt l.engine.world l.fn.at.principal l.fn.at.action) l.fn.at.resource l.i l.initial.decisions l.decisions
