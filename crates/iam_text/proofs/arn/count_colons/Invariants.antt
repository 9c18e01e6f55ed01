use Rattle.std.proofs.Common.{◌≡◌, take}
use Rattle.iam_text.specs.Arn.{colons}
use Rattle.iam_text.proofs.arn.count_colons.Given as goal

-- the colons so far
abbrev pub invariant-loop-character : goal.invariant-loop-character
invariant-loop-character l = l.count ≡ colons (take l.character-index l.text)
