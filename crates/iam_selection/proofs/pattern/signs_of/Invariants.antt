use Rattle.std.proofs.Common.{◌≡◌, ◌≤◌, ◌++◌, ◌-◌, drop, length}
use Rattle.iam_selection.specs.Selection.{signs_of}
use Rattle.iam_selection.proofs.pattern.signs_of.Given as goal

-- the signs so far, and those of the characters that are left
abbrev pub invariant-loop-at : goal.invariant-loop-at
invariant-loop-at l =
    (l.at ≤ length l.characters) × (signs_of l.characters ≡ l.signs.items ++ signs_of (drop l.at l.characters))

abbrev pub decreases-loop-at : goal.decreases-loop-at
decreases-loop-at l = length l.characters - l.at
