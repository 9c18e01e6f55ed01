use Rattle.iam_selection.proofs.Names.{each_text_is_named}
use Rattle.iam_selection.proofs.laws.each_text_is_named.Goals as goal

pub returns : goal.returns
returns c = each_text_is_named
