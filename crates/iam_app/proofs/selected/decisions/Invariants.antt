use Rattle.std.proofs.Common.{take}
use Rattle.std.specs.List.{AllZip}
use Rattle.iam_app.specs.Selected.{Means}
use Rattle.iam_app.proofs.selected.decisions.Given as goal

abbrev pub invariant-loop-word : goal.invariant-loop-word
invariant-loop-word l = AllZip Means (take l.word-index l.words) l.decisions.items
