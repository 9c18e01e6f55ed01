use Rattle.iam_options.proofs.Reading.{number_read}
use Rattle.iam_options.proofs.options.number_at.Goals as goal

pub returns : goal.returns
returns c = number_read 64 _ _ c.get_one.ensures.none c.get_one.ensures.value
