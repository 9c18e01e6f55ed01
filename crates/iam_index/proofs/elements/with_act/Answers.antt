use Rattle.std.proofs.Common.{◌+◌, ◌*◌, arith}
use Rattle.iam_match.specs.Statement.{ActionMatches}
use Rattle.iam_index.proofs.ElementLemmas.{acting_first, idle_first}
use Rattle.iam_index.proofs.elements.with_act.Goals as goal
use Rattle.iam_index.proofs.elements.with_act.Goals.{then-acts, else-acts}

pub returns-clause-bits : goal.returns-clause-bits
returns-clause-bits c = λ text s living is bits.
    let word = c.args.word in
    let next = word * 2 + c.if-acts.bit in
    elim c.if-acts.branch [
      | then-acts w ↦
          acting_first text s living word next (omega (arith, w.bit-is)) (is.0 w.if-acts.true) bits
      | else-acts w ↦
          let idle : ¬ ActionMatches s.action text = λ acts. let yes = is.1 acts in let no = w.if-acts.false in let wrong : ⊥ = cc in wrong in
          idle_first text s living word next (omega (arith, w.bit-is)) idle bits
    ]
