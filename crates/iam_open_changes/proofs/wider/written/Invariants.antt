use Rattle.std.proofs.Common.{◌≡◌, map, string_bytes, take}
use Rattle.std.specs.Str.{chars}
use Rattle.iam_glob.specs.Glob.{wild_sign}
use Rattle.iam_glob.specs.Signs.{signs_in}
use Rattle.iam_open_changes.proofs.wider.written.Given as goal

-- of the signs so far
abbrev pub invariant-loop-i : goal.invariant-loop-i
invariant-loop-i l = map wild_sign (chars (string_bytes l.text)) ≡ take l.i (signs_in l.signs)
