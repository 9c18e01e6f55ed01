use Rattle.std.proofs.Common.{take}
use Rattle.std.specs.List.{AllZip}
use Rattle.iam_app.specs.AnyKey.{MeansWord}
use Rattle.iam_app.proofs.any_key.words.Given as goal

abbrev pub invariant-loop-text : goal.invariant-loop-text
invariant-loop-text l = AllZip MeansWord (take l.text-index l.texts) l.words.items
