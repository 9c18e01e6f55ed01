use Rattle.std.proofs.Common.{sym, ap, ◌∙◌}
use Rattle.iam_context.specs.Wide.{wide_of}
use Rattle.iam_context.proofs.WideLemmas.{wide_plain}
use Rattle.iam_context.proofs.wide.wide_pattern.Goals as goal

pub returns-in_ok-copy-in-Fixed : goal.returns-in_ok-copy-in-Fixed
returns-in_ok-copy-in-Fixed c =
    c.in_ok-copy-in-Fixed.ensures ∙ sym (wide_plain c.in-Fixed.glob.now) ∙ sym (ap wide_of c.in-Fixed.ensures)
