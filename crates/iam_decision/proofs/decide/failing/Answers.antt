use Rattle.std.proofs.Common.{List, take, ◌+◌, sym, ◌∙◌, ap, subst}
use Rattle.iam_decision.specs.Matched.{Selects}
use Rattle.iam_decision.specs.Code.Found.{AllowsIn, GrantsIn}
use Rattle.iam_decision.specs.Decision.{Fails}
use Rattle.iam_decision.specs.declared.place.Layer.{Layer}
use Rattle.iam_decision.specs.declared.place.Layer.TheVariants.{Org}
use Rattle.iam_decision.proofs.ScanLemmas.{select_more, select_skip}
use Rattle.iam_decision.proofs.decide.failing.Goals as goal
use Rattle.iam_decision.proofs.decide.failing.Goals.{then-fails+in_ok-push, else-fails}

pub loop-layer-preserved : goal.loop-layer-preserved
loop-layer-preserved c =
    let P = Fails (AllowsIn c.args.found.now) (GrantsIn c.args.found.now) c.args.frame in
    let Q : List Layer → Type 0 = λ failing. Selects P (take (c.loop-layer.layer-index + 1) c.args.layers.now) failing in
    elim c.if-fails.branch [
      | then-fails+in_ok-push w ↦
          subst Q (sym (ap (λ v. v.items) w.failing-is ∙ w.in_ok-push.ensures.items))
          (
          select_more P c.args.layers.now c.loop-layer.layer-index Org c.loop-layer.failing.items c.loop-layer-test.true c.loop-layer.invariant
          (c.fails.ensures.0 w.if-fails.true)
          )
      | else-fails w ↦
          subst Q (sym (ap (λ v. v.items) w.failing-is))
          (
          select_skip P c.args.layers.now c.loop-layer.layer-index Org c.loop-layer.failing.items c.loop-layer-test.true c.loop-layer.invariant
          (λ p. let holds = c.fails.ensures.1 p in let wrong : ⊥ = cc in wrong)
          )
    ]
