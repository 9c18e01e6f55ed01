use Rattle.std.proofs.Common.{map, drop}
use Rattle.iam_match.specs.Request.{access_of}
use Rattle.iam_decision.specs.Code.Scan.{placed_value}
use Rattle.iam_living.specs.Word.{AreBits}
use Rattle.iam_living.proofs.lists.word_of.Given as goal

abbrev pub invariant-loop-i : goal.invariant-loop-i
invariant-loop-i l = AreBits (access_of l.access) (map placed_value (drop l.i l.statements)) l.word
