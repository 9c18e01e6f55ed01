use Rattle.std.proofs.Common.{◌≡◌, ◌++◌, map, take}
use Rattle.iam_layers.specs.declared.unnamed.Unnamed.TheVariants.{Like}
use Rattle.iam_every.proofs.meant.add_resources.Given as goal

abbrev pub invariant-loop-r : goal.invariant-loop-r
invariant-loop-r l = l.said.items ≡ l.fn.said.items ++ map (λ r. Like r) (take l.r-index l.resources)
