use Rattle.std.proofs.Common.{ℕ, List, All, take}
use Rattle.iam_condition.specs.declared.operator.Base.{Base}
use Rattle.iam_match.specs.Code.Asked.{IsAsked}
use Rattle.iam_match.specs.Entry.{ValueMatches}
use Rattle.iam_match.proofs.entry.matches_some.Given as goal

-- the values so far
abbrev pub invariant-loop-value : goal.invariant-loop-value
invariant-loop-value l =
    (base : Base) (text : List ℕ) → IsAsked base text l.asked → All (λ value. ¬ ValueMatches l.context base text value) (take l.value-index l.values)
