use Rattle.std.proofs.Common.{◌∙◌, ap, not}
use Rattle.iam_context.proofs.KeyLemmas.{has_more}
use Rattle.iam_context.proofs.keys.Keys.insert.Goals as goal

pub returns : goal.returns
returns c = λ keys has. (
  c.in_ok-is_new.ensures.added ∙ ap not (has c.args.key.now),
  has_more c.args.self.now (record { set = c.insert.new.self }) (record { 0 = c.args.key }) keys has c.in_ok-is_new.ensures.updates,
)
