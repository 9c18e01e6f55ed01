use Rattle.std.proofs.lemmas.Result.{IfOk-weaker}
use Rattle.iam_every.specs.Every.{every_of}
use Rattle.iam_open_every.proofs.ActionLemmas.{found_all}
use Rattle.iam_open_every.proofs.actions.all_actions.Goals as goal

pub returns : goal.returns
returns c =
    IfOk-weaker c.meant_actions.result _ _ (found_all c.own_groups_tell_apart.ensures.actions (every_of c.args.asked) c.args.p) c.meant_actions.ensures.asked
