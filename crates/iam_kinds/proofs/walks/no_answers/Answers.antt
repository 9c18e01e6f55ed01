use Rattle.std.proofs.Common.{◌≡◌, None, arith, replicate, subst}
use Rattle.iam_kinds.proofs.walks.no_answers.Goals as goal

pub returns : goal.returns
returns c =
    let all : c.loop-slot._slot ≡ 1024 = omega (arith, c.loop-slot.auto._slot-end, c.loop-slot-test.false) in
    subst (λ n. c.loop-slot.slots.items ≡ replicate n None) all c.loop-slot.invariant
