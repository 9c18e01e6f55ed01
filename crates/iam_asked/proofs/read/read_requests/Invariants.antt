use Rattle.std.proofs.Common.{◌≡◌, List, ℕ}
use Rattle.std.specs.Io.KnownBytes.{Consumes}
use Rattle.iam_asked.specs.Code.Cut.{HasRead}
use Rattle.iam_asked.proofs.read.read_requests.Given as goal

-- what the reader lost was read
abbrev pub invariant-loop : goal.invariant-loop
invariant-loop g l =
    (bytes : List ℕ) × Consumes (g.R.Read.remaining l.initial.reader) (g.R.Read.remaining l.reader) bytes × HasRead bytes l.lines.rest.items l.lines.reading
    × (l.lines.reading.world ≡ l.world)
