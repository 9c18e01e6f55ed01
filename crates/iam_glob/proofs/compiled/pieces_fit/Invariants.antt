use Rattle.std.proofs.Common.{◌↔◌, drop}
use Rattle.iam_glob.specs.Code.Compiled.{before_any}
use Rattle.iam_glob.specs.Code.Walk.{Later, Walks}
use Rattle.iam_glob.proofs.compiled.pieces_fit.Given as goal

-- the pieces that are left decide
abbrev pub invariant-loop-piece : goal.invariant-loop-piece
invariant-loop-piece l =
    Later (Walks (λ c. c) (before_any l.pieces)) l.text ↔ Later (Walks (λ c. c) (before_any (drop l.piece-index l.pieces))) l.rest
