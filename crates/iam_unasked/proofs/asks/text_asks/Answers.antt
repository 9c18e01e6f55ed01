use Rattle.std.proofs.Common.{◌∙◌, ap, sym}
use Rattle.std.specs.List.{list_any}
use Rattle.iam_unasked.specs.Asks.{piece_asks}
use Rattle.iam_unasked.proofs.WalkLemmas.{plain_asks}
use Rattle.iam_unasked.proofs.asks.text_asks.Goals as goal

pub returns-in-Fixed : goal.returns-in-Fixed
returns-in-Fixed c = λ list has. sym (ap (list_any (piece_asks list)) c.in-Fixed.ensures ∙ plain_asks list c.in-Fixed.field-0.now)
