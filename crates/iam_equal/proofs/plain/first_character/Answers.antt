use Rattle.std.proofs.Common.{sym, ◌∙◌, ap}
use Rattle.std.proofs.lemmas.List.{nil_from_length}
use Rattle.std.proofs.lemmas.Str.{chars_past_char, chars-nil}
use Rattle.std.specs.Str.{chars}
use Rattle.iam_equal.proofs.plain.first_character.Goals as goal

pub returns-in-Some : goal.returns-in-Some
returns-in-Some c = rw c.as_str.ensures (chars_past_char _ _ _ c.utf8.text (sym c.chars-behind.ensures.rest ∙ c.in-Some.ensures.steps.0))

pub returns-in-None : goal.returns-in-None
returns-in-None c =
    ap chars (sym c.chars-behind.ensures.rest ∙ nil_from_length c.chars-behind.result.rest.now c.in-None.ensures.steps.0.0) ∙ chars-nil
