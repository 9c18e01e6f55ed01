use Rattle.std.proofs.Common.{◌≤◌, All, length, take}
use Rattle.std.specs.Str.{IsUtf8}
use Rattle.iam_open.proofs.example.are_single.Given as goal

-- of the keys so far
abbrev pub invariant-loop-name : goal.invariant-loop-name
invariant-loop-name l = All (λ entry. IsUtf8 entry.0 × All IsUtf8 entry.1 × (length entry.1 ≤ 1)) (take l.name-index l.own.items)
