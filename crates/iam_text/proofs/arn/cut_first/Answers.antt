use Rattle.iam_text.proofs.ArnLemmas.{cuts_first}
use Rattle.iam_text.proofs.arn.cut_first.Goals as goal

pub returns : goal.returns
returns c = cuts_first c.args.text.now c.split_once.result c.split_once.ensures.cases
