use Rattle.std.proofs.Common.{◌≡◌, take}
use Rattle.iam_app.specs.Selected.{patterns_in}
use Rattle.iam_app.proofs.selected.patterns.Given as goal

abbrev pub invariant-loop-word : goal.invariant-loop-word
invariant-loop-word l = l.patterns.items ≡ patterns_in (take l.word-index l.words)
