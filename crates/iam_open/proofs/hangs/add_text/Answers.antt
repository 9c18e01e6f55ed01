use Rattle.iam_open.proofs.AskLemmas.{added_plain}
use Rattle.iam_open.proofs.hangs.add_text.Goals as goal

pub returns-in-Fixed : goal.returns-in-Fixed
returns-in-Fixed c = added_plain c.args.known.now c.args.keys.now.items c.args.text.now c.in-Fixed.field-0.now c.in-Fixed.ensures
