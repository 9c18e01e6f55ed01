use Rattle.iam_condition.proofs.NameLemmas.{before_word}
use Rattle.iam_condition.proofs.names.text_before.Goals as goal

pub returns : goal.returns
returns c = before_word c.args.text.now c.args.word.now c.strip_suffix.result c.strip_suffix.ensures.cases
