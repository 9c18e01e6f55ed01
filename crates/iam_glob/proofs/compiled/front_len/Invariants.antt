use Rattle.std.proofs.Common.{◌≡◌, map, take}
use Rattle.iam_glob.specs.Glob.{plain_sign, wild_sign}
use Rattle.iam_glob.proofs.compiled.front_len.Given as goal

-- those so far are given
abbrev pub invariant-loop-i : goal.invariant-loop-i
invariant-loop-i l = map wild_sign (take l.i l.text) ≡ map plain_sign (take l.i l.text)
