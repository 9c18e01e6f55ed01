use Rattle.std.proofs.Common.{map, string_bytes, take}
use Rattle.iam_match.specs.Statement.{ActionMatches}
use Rattle.iam_every.specs.Code.Picked.{TellEach}
use Rattle.iam_every.proofs.acting.acts_of.Given as goal

abbrev pub invariant-loop-action : goal.invariant-loop-action
invariant-loop-action l = TellEach (ActionMatches l.element) (map string_bytes (take l.action-index l.actions)) l.acts.items
