use Rattle.std.proofs.Common.{ℕ, List, All, take}
use Rattle.iam_condition.specs.declared.operator.Base.{Base}
use Rattle.iam_match.specs.Code.Asked.{IsAsked, ValueDiffers}
use Rattle.iam_match.proofs.entry.differs_from_all.Given as goal

-- the values so far
abbrev pub invariant-loop-value : goal.invariant-loop-value
invariant-loop-value l =
    (base : Base) (text : List ℕ) → IsAsked base text l.asked → All (ValueDiffers l.context base text) (take l.value-index l.values)
