use Rattle.std.proofs.Common.{◌≡◌, ℕ, List, map, take}
use Rattle.iam_match.specs.Request.{access_of}
use Rattle.iam_match.specs.Statement.{request_for}
use Rattle.iam_decision.specs.Code.Scan.{placed_value}
use Rattle.iam_decision.specs.Early.{Tells}
use Rattle.iam_index.specs.Index.{AllAct}
use Rattle.iam_engine.proofs.walk.is_denied.Given as goal

-- the candidates so far
abbrev pub invariant-loop-standing : goal.invariant-loop-standing
invariant-loop-standing l =
    (l.cache ≡ l.initial.cache)
    × ((action : List ℕ) → AllAct action l.candidates
    → Tells (request_for (access_of l.access) action) (take l.standing-index (map placed_value l.candidates)) l.findings)
