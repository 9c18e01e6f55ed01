use Rattle.iam_layers.specs.Cell.{IsVerdictAt}
use Rattle.iam_classes.specs.Engine.{EngineValue}
use Rattle.iam_matrix.specs.Code.Leads.{AreKnown, AreLeads}
use Rattle.iam_matrix.specs.Code.Tiles.{Adds}
use Rattle.iam_matrix.proofs.leads.put_pairs.Given as goal

-- the cells so far
abbrev pub invariant-loop-i : goal.invariant-loop-i
invariant-loop-i l =
    (engine : EngineValue) → AreKnown engine l.pairs → AreLeads engine l.leads l.initial.entries
    → Adds (IsVerdictAt engine.world l.at.principal l.at.action) l.at.resource l.i l.initial.entries l.entries
