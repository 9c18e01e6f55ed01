use Rattle.std.specs.Prelude.{⊤}
use Rattle.iam_every.proofs.told.number_of.Given as goal

abbrev pub invariant-loop-n : goal.invariant-loop-n
invariant-loop-n l = ⊤
