use Rattle.std.proofs.Common.{length, map}
use Rattle.iam_asked.specs.Code.TextsRead.{HasTexts}
use Rattle.iam_asked.specs.TextLines.{text_line_of}
use Rattle.iam_asked.proofs.texts.read_texts.Given as goal

-- the lines that were cut off were read
abbrev pub invariant-loop-line : goal.invariant-loop-line
invariant-loop-line l = HasTexts l.world l.bytes l.left (map text_line_of l.texts.items)

abbrev pub decreases-loop-line : goal.decreases-loop-line
decreases-loop-line l = length l.left
