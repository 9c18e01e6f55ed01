use Rattle.std.proofs.Common.{◌≡◌, ◌+◌, ◌++◌, drop}
use Rattle.iam_kinds.specs.Code.{moves_from}
use Rattle.iam_kinds.proofs.table.add_moves.Given as goal

abbrev pub invariant-loop-sign : goal.invariant-loop-sign
invariant-loop-sign l =
    (l.place.at ≡ l.fn.from.at + l.sign-index) × (l.place.pattern ≡ l.fn.from.pattern)
    × (l.fn.moved.items ++ moves_from l.fn.from.pattern l.fn.from.at l.signs l.letter ≡ l.moved.items ++ moves_from l.place.pattern l.place.at (drop l.sign-index l.signs) l.letter)
