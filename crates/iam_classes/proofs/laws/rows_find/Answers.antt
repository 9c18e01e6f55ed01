use Rattle.iam_classes.proofs.FindLemmas.{rows_find}
use Rattle.iam_classes.proofs.laws.rows_find.Goals as goal

pub returns : goal.returns
returns c = rows_find
