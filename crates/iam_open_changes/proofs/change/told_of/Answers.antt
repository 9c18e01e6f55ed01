use Rattle.iam_open_changes.proofs.CertainLemmas.{never_turned}
use Rattle.iam_open_changes.proofs.change.told_of.Goals as goal

pub returns-then-cannot_turn : goal.returns-then-cannot_turn
returns-then-cannot_turn c = λ one other was now before after.
    never_turned c.args.turn one other was now c.args.before c.args.after (c.requires.before one was before) (c.requires.after other now after)
    (c.cannot_turn.ensures c.if-cannot_turn.true)
