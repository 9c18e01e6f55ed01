use Rattle.std.proofs.Common.{All, take}
use Rattle.iam_match.specs.Statement.{TextMatches}
use Rattle.iam_match.proofs.resource.some_matches.Given as goal

-- the texts so far
abbrev pub invariant-loop-text : goal.invariant-loop-text
invariant-loop-text l = All (λ text. ¬ TextMatches l.context l.resource text) (take l.text-index l.texts)
