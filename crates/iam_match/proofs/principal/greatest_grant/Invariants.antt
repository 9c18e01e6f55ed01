use Rattle.std.proofs.Common.{◌≡◌, map, take}
use Rattle.iam_match.specs.Principal.{grant_of_text, greatest}
use Rattle.iam_match.proofs.principal.greatest_grant.Given as goal

-- the greatest so far
abbrev pub invariant-loop-principal : goal.invariant-loop-principal
invariant-loop-principal l = l.greatest ≡ greatest (map (grant_of_text l.requester) (take l.principal-index l.principals))
