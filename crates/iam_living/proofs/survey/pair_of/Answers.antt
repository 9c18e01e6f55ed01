use Rattle.std.proofs.Common.{◌+◌, ◌*◌, ◌/◌, ◌%◌, length, ap, ◌∙◌}
use Rattle.std.proofs.lemmas.Nat.{div-mul-add, mod-mul-add}
use Rattle.iam_living.proofs.survey.pair_of.Goals as goal

pub returns-clause-principal : goal.returns-clause-principal
returns-clause-principal c =
    let n = length c.args.world.now.resources in
    let is = c.in_ok-pair.ensures.1 ∙ ap (λ k. k + c.args.r) (c.in_ok-checked_mul.ensures.1 ∙ ap (λ k. c.args.p * k) c.resources.ensures) in
    ap (λ k. k / n) is ∙ div-mul-add c.args.p n c.args.r c.requires

pub returns-clause-resource : goal.returns-clause-resource
returns-clause-resource c =
    let n = length c.args.world.now.resources in
    let is = c.in_ok-pair.ensures.1 ∙ ap (λ k. k + c.args.r) (c.in_ok-checked_mul.ensures.1 ∙ ap (λ k. c.args.p * k) c.resources.ensures) in
    ap (λ k. k % n) is ∙ mod-mul-add c.args.p n c.args.r c.requires
