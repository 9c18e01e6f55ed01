use Rattle.iam_selection.proofs.Nothing.{selects_all, selects_first}
use Rattle.iam_selection.proofs.laws.nothing_selects_all.Goals as goal

pub returns : goal.returns
returns c = record { listing = selects_all c.one_triple.ensures.some; first = selects_first c.one_triple.ensures.some }
