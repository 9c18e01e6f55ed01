use Rattle.std.proofs.Common.{[], ◌∙◌}
use Rattle.std.proofs.lemmas.Result.{IfOk-weaker}
use Rattle.iam_context.proofs.Shares.{shares_none}
use Rattle.iam_context.specs.Context.{keys_of}
use Rattle.iam_context.proofs.part.has_twice.Goals as goal

pub returns : goal.returns
returns c =
    IfOk-weaker c.add_new.result _ _ (λ found is. (is [] c.new.ensures).0 ∙ shares_none (keys_of c.args.part.now.items)) c.add_new.ensures
