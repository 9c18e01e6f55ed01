use Rattle.std.proofs.Common.{◌≡◌, drop}
use Rattle.std.specs.List.{list_any}
use Rattle.iam_open.specs.Code.Known.{text_beyond}
use Rattle.iam_open_every.proofs.groups.texts_beyond.Given as goal

-- what is left decides
abbrev pub invariant-loop-text : goal.invariant-loop-text
invariant-loop-text l = list_any (text_beyond l.known) l.texts ≡ list_any (text_beyond l.known) (drop l.text-index l.texts)
