use Rattle.iam_every_changes.proofs.PrincipalLemmas.{adds_nothing, all_more}
use Rattle.iam_every_changes.proofs.principals.add_all.Goals as goal

pub loop-p-init : goal.loop-p-init
loop-p-init c = λ before was now. adds_nothing before c.args.after.now c.args.whos.now.items

pub loop-p-preserved : goal.loop-p-preserved
loop-p-preserved c = λ before was now.
    all_more before c.args.after.now c.loop-p.p c.principal_text.result.now c.who.result c.args.whos.now.items c.loop-p.whos.items c.push.new.self.items
    c.principal_text.ensures (c.loop-p.invariant before was now) (c.who.ensures before c.args.after.now was now) c.in_ok-push.ensures.items
