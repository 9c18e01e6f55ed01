use Rattle.std.proofs.Common.{◌≡◌, ◌+◌, drop}
use Rattle.std.specs.List.{sum_by}
use Rattle.iam_asked.specs.Size.{text_size}
use Rattle.iam_asked.proofs.own.behind_texts.Given as goal

-- as much is left as the room and the texts ahead have over all texts
abbrev pub invariant-loop-text : goal.invariant-loop-text
invariant-loop-text l = l.left + sum_by text_size l.texts ≡ l.room + sum_by text_size (drop l.text-index l.texts)
