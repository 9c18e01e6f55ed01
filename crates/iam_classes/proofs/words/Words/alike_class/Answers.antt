use Rattle.std.proofs.Common.{ℕ, List, Option, subst}
use Rattle.iam_columns.specs.Slots.{Keeps}
use Rattle.iam_classes.proofs.words.Words.alike_class.Goals as goal

pub returns-then-none_concerns-clause-class : goal.returns-then-none_concerns-clause-class
returns-then-none_concerns-clause-class c =
    let K : List (Option ℕ) → Type 0 = λ slots. Keeps slots c.in_ok-number.field-0 c.in_ok-class.class in (
      c.in_ok-number.field-0,
      c.in_ok-number.was,
      subst K c.as_slice.ensures.value c.in_ok-class.ensures.found,
      c.none_concerns.ensures.none c.if-none_concerns.true,
    )
