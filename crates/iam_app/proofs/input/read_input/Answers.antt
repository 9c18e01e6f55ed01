use Rattle.std.proofs.Common.{◌≤◌, ◌++◌, length, arith, length-append}
use Rattle.std.proofs.KnownBytes.{Consumes-trans}
use Rattle.iam_app.proofs.input.read_input.Goals as goal

-- what was read before, and then the bytes of this turn
pub returns-in_err-turn-clause-most : goal.returns-in_err-turn-clause-most
returns-in_err-turn-clause-most g c =
    let before = c.loop-reader.bytes.items in
    let gave = c.turn.ensures.most.0 in
    let fits : length (before ++ gave) ≤ 8388609 = omega (arith, length-append before gave, c.turn.ensures.most.1, c.loop-reader.invariant.1) in
    (before ++ gave, fits, Consumes-trans _ _ _ _ _ c.loop-reader.invariant.0 c.turn.ensures.most.2)
