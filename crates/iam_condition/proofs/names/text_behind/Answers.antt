use Rattle.iam_condition.proofs.NameLemmas.{behind_word}
use Rattle.iam_condition.proofs.names.text_behind.Goals as goal

pub returns : goal.returns
returns c = behind_word c.args.text.now c.args.word.now c.strip_prefix.result c.strip_prefix.ensures.cases
