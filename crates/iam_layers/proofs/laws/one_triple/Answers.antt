use Rattle.iam_layers.proofs.CellLemmas.{one_triple, some_triple}
use Rattle.iam_layers.proofs.laws.one_triple.Goals as goal

pub returns : goal.returns
returns c = record { some = some_triple; one = one_triple }
