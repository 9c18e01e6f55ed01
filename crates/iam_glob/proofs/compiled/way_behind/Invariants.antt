use Rattle.std.proofs.Common.{◌≡◌, ◌++◌, length, map}
use Rattle.iam_glob.specs.Code.Compiled.{before_any}
use Rattle.iam_glob.specs.Glob.{wild_sign}
use Rattle.iam_glob.proofs.compiled.way_behind.Given as goal

-- the pieces so far, and what is left
abbrev pub invariant-loop-pieces : goal.invariant-loop-pieces
invariant-loop-pieces l = map wild_sign l.behind ≡ before_any l.pieces.items ++ map wild_sign l.left

-- each piece takes a `*` off
abbrev pub decreases-loop-pieces : goal.decreases-loop-pieces
decreases-loop-pieces l = length l.left
