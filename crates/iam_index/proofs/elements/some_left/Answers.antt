use Rattle.std.proofs.Common.{◌≡◌, length, arith}
use Rattle.iam_index.proofs.ElementLemmas.{none_more, none_of_all}
use Rattle.iam_index.proofs.elements.some_left.Goals as goal

pub loop-a-preserved : goal.loop-a-preserved
loop-a-preserved c =
    none_more c.args.world.now c.args.action.now c.loop-a.a c.action_text.result.now c.action_text.ensures
    (λ matched. let yes = c.action_matches.ensures.1 matched in let no = c.if-action_matches.false in let wrong : ⊥ = cc in wrong) c.loop-a.invariant

pub returns : goal.returns
returns c = λ _.
    let long : length c.args.world.now.actions ≡ c.loop-a.a = omega (arith, c.actions-a-end.ensures, c.loop-a-test.false, c.loop-a.auto.a-end) in
    none_of_all c.args.world.now c.args.action.now c.loop-a.a long c.loop-a.invariant
