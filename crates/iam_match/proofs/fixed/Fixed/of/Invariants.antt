use Rattle.std.proofs.Common.{◌≡◌, map, take}
use Rattle.iam_text.specs.Draft.{plain_draft}
use Rattle.iam_match.proofs.fixed.Fixed.of.Given as goal

-- the patterns so far
abbrev pub invariant-loop-text : goal.invariant-loop-text
invariant-loop-text l = map plain_draft l.patterns.items ≡ take l.text-index l.texts
