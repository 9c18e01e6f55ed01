use Rattle.std.proofs.Common.{sym, ◌∙◌, ap, ◌++◌, length}
use Rattle.std.proofs.lemmas.List.{nil_from_length}
use Rattle.std.proofs.lemmas.Str.{chars-nil}
use Rattle.std.specs.Prelude.{encode_utf8}
use Rattle.std.specs.Str.{chars}
use Rattle.iam_glob.specs.Code.Walk.{char_in}
use Rattle.iam_glob.proofs.BackLemmas.{chars_before_char, last_wrong, no_last}
use Rattle.iam_glob.proofs.walk.before_one.Goals as goal

pub returns-then-covers-clause-some : goal.returns-then-covers-clause-some
returns-then-covers-clause-some c = (
  c.in-Some.last,
  c.covers.ensures.0 c.if-covers.true,
  chars_before_char _ _ _ c.utf8.text c.as_str-before.utf8
      (sym c.chars-rest.ensures.rest ∙ c.in-Some.ensures.steps ∙ ap (λ t. t ++ encode_utf8 c.in-Some.last) (sym c.as_str-before.ensures)),
)

pub returns-else-covers-clause-none : goal.returns-else-covers-clause-none
returns-else-covers-clause-none c =
    last_wrong (char_in c.args.case) c.args.sign _ _ _
    (chars_before_char _ _ _ c.utf8.text c.as_str-before.utf8
    (sym c.chars-rest.ensures.rest ∙ c.in-Some.ensures.steps ∙ ap (λ t. t ++ encode_utf8 c.in-Some.last) (sym c.as_str-before.ensures)))
    (λ covers. let wrong = c.covers.ensures.1 covers in absurd (let no : ⊥ = cc in no))

pub returns-in-None-clause-none : goal.returns-in-None-clause-none
returns-in-None-clause-none c =
    no_last (char_in c.args.case) c.args.sign _
    (ap chars (nil_from_length c.args.text.now (sym (ap length c.chars-rest.ensures.rest) ∙ c.in-None.ensures.steps.0)) ∙ chars-nil)
