use Rattle.std.proofs.Common.{◌∷◌, ◌++◌, ◌↔◌, List, length, map}
use Rattle.iam_glob.specs.Code.Walk.{Later, Walks}
use Rattle.iam_glob.specs.Glob.{plain_sign}
use Rattle.iam_glob.specs.declared.sign.Sign.{Sign}
use Rattle.iam_glob.specs.declared.sign.Sign.TheVariants.{Any}
use Rattle.iam_glob.proofs.compiled.behind_first.Given as goal

-- what is left decides
abbrev pub invariant-loop-rest : goal.invariant-loop-rest
invariant-loop-rest l = (signs : List Sign)
    → Later (Walks (λ c. c) (map plain_sign l.piece ++ (Any ∷ signs))) l.text
    ↔ Later (Walks (λ c. c) (map plain_sign l.piece ++ (Any ∷ signs))) l.left

abbrev pub decreases-loop-rest : goal.decreases-loop-rest
decreases-loop-rest l = length l.left
