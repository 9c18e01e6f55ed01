use Rattle.std.proofs.Common.{IsTrue, take}
use Rattle.std.specs.List.{list_all}
use Rattle.iam_text.specs.Draft.{is_key_character}
use Rattle.iam_text.proofs.form.key_len.Given as goal

abbrev pub invariant-loop-i : goal.invariant-loop-i
invariant-loop-i l = IsTrue (list_all is_key_character (take l.i l.text))
