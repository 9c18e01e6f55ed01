use Rattle.std.proofs.Common.{◌≡◌, map, take}
use Rattle.iam_context.specs.Wide.{wide_of}
use Rattle.iam_match.proofs.wide.Wide.of.Given as goal

-- the patterns so far
abbrev pub invariant-loop-text : goal.invariant-loop-text
invariant-loop-text l = l.patterns.items ≡ map wide_of (take l.text-index l.texts)
