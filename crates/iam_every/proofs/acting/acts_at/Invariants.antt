use Rattle.std.proofs.Common.{◌≡◌, map, take}
use Rattle.iam_every.specs.Code.Acting.{acts_in}
use Rattle.iam_every.proofs.acting.acts_at.Given as goal

abbrev pub invariant-loop-n : goal.invariant-loop-n
invariant-loop-n l = l.acts.items ≡ map (acts_in l.known l.i) (take l.n-index l.numbers)
