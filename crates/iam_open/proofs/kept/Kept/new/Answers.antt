use Rattle.std.proofs.Common.{List, [], All, arith, subst, sym}
use Rattle.iam_open.specs.Code.Pairs.{IsKept}
use Rattle.iam_open.specs.declared.pair.Pair.{Pair}
use Rattle.iam_open.proofs.kept.Kept.new.Goals as goal

pub returns : goal.returns
returns c = λ world.
    let none : All (IsKept world) [] = λ k d below. absurd (let wrong : ⊥ = omega (arith, below) in wrong) in
    subst (λ (xs : List Pair). All (IsKept world) xs) (sym c.new.ensures.items) none
