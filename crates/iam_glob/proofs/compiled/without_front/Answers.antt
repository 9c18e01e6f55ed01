use Rattle.iam_glob.proofs.CompiledLemmas.{stripped}
use Rattle.iam_glob.proofs.compiled.without_front.Goals as goal

pub returns-in_default : goal.returns-in_default
returns-in_default c = stripped c.args.piece.now c.args.text.now c.strip_prefix.result c.strip_prefix.ensures.cases
