use Rattle.std.proofs.Common.{◌≡◌, rules}
use Rattle.iam_open_changes.proofs.LookLemmas.{texts_same}
use Rattle.iam_open_changes.proofs.same.has_same_texts.Goals as goal

pub returns : goal.returns
returns c = λ t one other was now has has'.
    let action : c.args.before.action.now ≡ c.args.after.action.now = search rules in
    let arn : c.text.result.now ≡ c.text-2.result.now = search rules in
    texts_same one other was now c.args.before.action.now c.args.after.action.now c.text.result.now c.text-2.result.now has.action has'.action action
    (c.text.ensures one was.resource has.resource) (c.text-2.ensures other now.resource has'.resource) arn
