use Rattle.std.proofs.Common.{◌≡◌, ◌<◌, ℕ, Some, map}
use Rattle.std.specs.List.{slice_get}
use Rattle.std.specs.Str.{chars}
use Rattle.iam_glob.specs.Glob.{Matches}
use Rattle.iam_every.specs.Every.{LineValue, line_of}
use Rattle.iam_every.proofs.given.first_line.Given as goal

abbrev pub invariant-loop-k : goal.invariant-loop-k
invariant-loop-k l = (j : ℕ) (other : LineValue) → j < l.k → slice_get (map line_of l.lines) j ≡ Some other
    → ¬ Matches other.pattern (chars l.text)
