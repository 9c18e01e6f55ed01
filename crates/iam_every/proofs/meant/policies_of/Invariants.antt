use Rattle.std.proofs.Common.{map, take}
use Rattle.iam_decision.specs.Applicable.{value_of}
use Rattle.iam_every.proofs.MeantLemmas.{Looked}
use Rattle.iam_every.proofs.meant.policies_of.Given as goal

abbrev pub invariant-loop-unnamed : goal.invariant-loop-unnamed
invariant-loop-unnamed l = Looked l.world l.p (take l.unnamed-index l.said) (map value_of l.policies.items)
