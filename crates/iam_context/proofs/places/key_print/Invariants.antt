use Rattle.std.proofs.Common.{◌≡◌, drop, map}
use Rattle.std.specs.Char.{to_ascii_lowercase}
use Rattle.iam_context.specs.Code.Places.{key_print, print_from}
use Rattle.iam_context.proofs.places.key_print.Given as goal

-- what is left makes the print
abbrev pub invariant-loop-byte : goal.invariant-loop-byte
invariant-loop-byte l = key_print l.key ≡ print_from l.print (map to_ascii_lowercase (drop l.byte-index l.key))
