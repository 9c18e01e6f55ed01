use Rattle.std.proofs.Common.{◌∙◌, ap, sym}
use Rattle.iam_open.specs.Code.Known.{text_beyond}
use Rattle.iam_open.proofs.FormLemmas.{plain_beyond}
use Rattle.iam_open.proofs.beyond.text_beyond.Goals as goal

pub returns-in-Fixed : goal.returns-in-Fixed
returns-in-Fixed c = sym (ap (text_beyond c.args.known.now) c.in-Fixed.ensures ∙ plain_beyond c.args.known.now c.in-Fixed.field-0.now)
