use Rattle.std.proofs.Common.{ℕ, ◌+◌, arith, sym, subst}
use Rattle.iam_decision.specs.declared.living.Matched.{Matched}
use Rattle.iam_classes.specs.Code.Lanes.{Picks}
use Rattle.iam_classes.proofs.GatherLemmas.{AreGathered, gathered_all, gathered_more, gathered_none, gathered_skip}
use Rattle.iam_classes.proofs.gather.Batch.lanes.Goals as goal
use Rattle.iam_classes.proofs.gather.Batch.lanes.Goals.{then-takes, else-takes}

pub loop-i-init : goal.loop-i-init
loop-i-init c = gathered_none (λ m. Picks c.args.pick m) c.args.self

pub loop-i-preserved : goal.loop-i-preserved
loop-i-preserved c =
    let P : Matched → Type 0 = λ m. Picks c.args.pick m in
    let Q : ℕ → Type 0 = λ lanes. AreGathered P c.args.self lanes (c.loop-i.i + 1) in
    elim c.if-takes.branch [
      | then-takes w ↦
          subst Q (sym w.lanes-is)
          (gathered_more P c.args.self c.loop-i.lanes w.word_of-lanes.result c.loop-i.i c.index-self-i.result
          c.loop-i-test.true (c.takes.ensures.0 w.if-takes.true) w.word_of-lanes.ensures c.loop-i.invariant)
      | else-takes w ↦
          subst Q (sym w.lanes-is)
          (gathered_skip P c.args.self c.loop-i.lanes c.loop-i.i c.index-self-i.result c.loop-i-test.true
          (λ p. let holds = c.takes.ensures.1 p in let wrong : ⊥ = cc in wrong) c.loop-i.invariant)
    ]

pub returns : goal.returns
returns c =
    gathered_all (λ m. Picks c.args.pick m) c.args.self c.loop-i.lanes c.loop-i.i (omega (arith, c.loop-i-test.false, c.loop-i.auto.i-end))
    c.loop-i.invariant
