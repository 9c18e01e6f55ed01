use Rattle.std.proofs.Common.{◌≡◌, ◌++◌, List, ℕ, length}
use Rattle.iam_asked.specs.Code.Cut.{HasRead}
use Rattle.iam_asked.proofs.read.Lines.add_block.Given as goal

-- what was cut off stands before what is left, and was read
abbrev pub invariant-loop-line : goal.invariant-loop-line
invariant-loop-line l =
    (done : List ℕ) × (l.block ≡ done ++ l.left) × (l.self.reading.world ≡ l.initial.self.reading.world)
    × ((bytes : List ℕ) → HasRead bytes l.initial.self.rest.items l.initial.self.reading → HasRead (bytes ++ done) l.self.rest.items l.self.reading)

abbrev pub decreases-loop-line : goal.decreases-loop-line
decreases-loop-line l = length l.left
