use Rattle.std.proofs.Common.{sym, ◌∙◌}
use Rattle.std.proofs.lemmas.Str.{chars_past_char}
use Rattle.iam_glob.proofs.walk.behind_one.Goals as goal

pub returns-then-covers-clause-some : goal.returns-then-covers-clause-some
returns-then-covers-clause-some c = (
  c.in-Some.next,
  c.covers.ensures.0 c.if-covers.true,
  rw c.as_str.ensures (chars_past_char _ _ _ c.utf8.text (sym c.chars-rest.ensures.rest ∙ c.in-Some.ensures.steps.0)),
)
