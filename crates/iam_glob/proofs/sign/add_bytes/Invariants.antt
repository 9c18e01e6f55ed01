use Rattle.std.proofs.Common.{◌≡◌, ◌++◌, ◌+◌, ◌≤◌, length, map, take}
use Rattle.iam_glob.specs.Glob.{sign_of}
use Rattle.iam_glob.proofs.sign.add_bytes.Given as goal

-- the bytes so far, and there is room for all
abbrev pub invariant-loop-byte : goal.invariant-loop-byte
invariant-loop-byte l =
    (l.signs.items ≡ l.fn.signs.items ++ map (sign_of l.wild) (take l.byte-index l.text))
    × (length l.fn.signs.items + length l.text ≤ l.signs.cap)
