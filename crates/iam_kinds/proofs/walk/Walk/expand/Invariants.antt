use Rattle.std.proofs.Common.{take}
use Rattle.iam_kinds.specs.Walk.{Grows, HasSeen, IsTried, IsWalk, StaysBelowBehind}
use Rattle.iam_kinds.proofs.walk.Walk.expand.Given as goal

abbrev pub invariant-loop-letter : goal.invariant-loop-letter
invariant-loop-letter l = record {
  walk : IsWalk l.asked l.self;
  seen : HasSeen l.self;
  grows : Grows l.initial.self l.self;
  tried : IsTried l.asked l.self l.head (take l.letter-index l.letter-items);
  only : StaysBelowBehind l.initial.self l.self l.head (take l.letter-index l.letter-items);
}
