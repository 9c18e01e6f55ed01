use Rattle.std.proofs.Common.{All, take}
use Rattle.iam_match.specs.Code.Compared.{TextDiffers}
use Rattle.iam_match.proofs.resource.all_differ.Given as goal

-- the texts so far
abbrev pub invariant-loop-text : goal.invariant-loop-text
invariant-loop-text l = All (TextDiffers l.context l.resource) (take l.text-index l.texts)
