use Rattle.std.proofs.Common.{List, subst}
use Rattle.iam_every_changes.specs.Code.Principals.{AddsAll}
use Rattle.iam_every_changes.specs.declared.compared.Who.{Who}
use Rattle.iam_every_changes.proofs.PrincipalLemmas.{principals_are}
use Rattle.iam_every_changes.proofs.principals.principals_of.Goals as goal

pub returns : goal.returns
returns c =
    let before = c.args.before.now in
    let after = c.args.after.now in
    let first = c.add_all.new.whos.items in
    let all = subst (λ (old : List Who). AddsAll before after old first) c.new-whos.ensures.items
    (c.in_ok-add_all.ensures before c.in_ok-was.ensures c.in_ok-now.ensures) in
    principals_are before after first c.add_alone.new.whos.items all (c.in_ok-add_alone.ensures after c.in_ok-was.ensures c.in_ok-now.ensures)
