use Rattle.std.proofs.Common.{string_bytes, take}
use Rattle.std.specs.List.{flat_map}
use Rattle.iam_report.specs.Code.Buffer.{Passes}
use Rattle.iam_every.proofs.text.put_texts.Given as goal

-- the texts so far
abbrev pub invariant-loop-text : goal.invariant-loop-text
invariant-loop-text g l =
    Passes (g.W.Write.contents l.initial.writer) (g.W.Write.contents l.writer) l.initial.kept.items l.kept.items
    (flat_map string_bytes (take l.text-index l.texts))
