use Rattle.iam_kinds.proofs.ListLemmas.{added}
use Rattle.iam_kinds.proofs.lists.Lists.add.Goals as goal

pub returns : goal.returns
returns c =
    added c.args.self.now.lists.keys c.insert.new.self.keys c.args.list c.in_ok-insert.field-0 c.in_ok-insert.ensures.added c.in_ok-insert.ensures.keys
