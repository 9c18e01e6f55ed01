use Rattle.std.proofs.Common.{List, subst, sym}
use Rattle.iam_decision.specs.declared.living.Matched.{Matched}
use Rattle.iam_open.specs.Code.Bounds.{Decides}
use Rattle.iam_open.proofs.bounds.Bounds.certain.Goals as goal

pub returns-then-not-is_allowed-clause-never : goal.returns-then-not-is_allowed-clause-never
returns-then-not-is_allowed-clause-never c = λ never held.
    let told = c.is_allowed.ensures.1 (subst (λ (found : List Matched). Decides found c.args.frame) (sym c.as_slice.ensures.value) held) in
    let wrong : ⊥ = cc in wrong

pub returns-then-is_allowed-clause-always : goal.returns-then-is_allowed-clause-always
returns-then-is_allowed-clause-always c = λ always.
    subst (λ (found : List Matched). Decides found c.args.frame) c.as_slice-2.ensures.value (c.is_allowed-2.ensures.0 c.if-is_allowed.true)
