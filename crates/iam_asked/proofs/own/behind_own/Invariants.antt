use Rattle.std.proofs.Common.{◌≡◌, ◌+◌, drop}
use Rattle.iam_asked.specs.Size.{own_size}
use Rattle.iam_asked.proofs.own.behind_own.Given as goal

-- as much is left as the room and the keys ahead have over all keys
abbrev pub invariant-loop-key : goal.invariant-loop-key
invariant-loop-key l = l.left + own_size l.own ≡ l.room + own_size (drop l.key-index l.own)
