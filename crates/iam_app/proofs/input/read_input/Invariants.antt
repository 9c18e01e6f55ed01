use Rattle.std.proofs.Common.{◌-◌, ◌≤◌, length}
use Rattle.std.specs.Io.KnownBytes.{Consumes}
use Rattle.iam_app.proofs.input.read_input.Given as goal

abbrev pub invariant-loop-reader : goal.invariant-loop-reader
invariant-loop-reader g l =
    Consumes (g.R.Read.remaining l.initial.reader) (g.R.Read.remaining l.reader) l.bytes.items × (length l.bytes.items ≤ 8_388_609)

abbrev pub decreases-loop-reader : goal.decreases-loop-reader
decreases-loop-reader g l = 8_388_609 - length l.bytes.items
