use Rattle.std.proofs.Common.{◌↔◌, List, ℕ, IsTrue, IfOk, ap, ◌∙◌, subst}
use Rattle.std.proofs.lemmas.Result.{IfOk-weaker}
use Rattle.iam_context.specs.Context.{values_of}
use Rattle.iam_condition.specs.declared.operand.Operand.{Operand}
use Rattle.iam_condition.specs.declared.operator.Operator.{Operator}
use Rattle.iam_match.specs.Entry.{HoldsOn, HoldsWith}
use Rattle.iam_match.proofs.CompareLemmas.{holds_on}
use Rattle.iam_match.proofs.entry.holds.Goals as goal

pub returns-in_default : goal.returns-in_default
returns-in_default c =
    let context = c.args.context.now in
    let entry = c.args.entry.now in
    let texts = c.values.result.now in
    let r = c.holds_with.result in
    let P : Operator → Type 0 = λ operator. IfOk r (λ held. IsTrue held ↔ HoldsWith context operator c.values-in_default.result.now texts) in
    let Q : List Operand → Type 0 = λ values. IfOk r (λ held. IsTrue held ↔ HoldsWith context entry.operator values texts) in
    let R : List (List ℕ) → Type 0 = λ ts. IfOk r (λ held. IsTrue held ↔ HoldsOn context entry ts) in
    let on = holds_on context entry texts c.in_default.len_at_least in
    let held = subst Q c.values-in_default.ensures (subst P c.operator-operator.ensures c.holds_with.ensures) in
    subst R (c.values.ensures ∙ ap (values_of context) c.key.ensures)
    (IfOk-weaker r _ _ (λ held agrees. (λ t. on.0 (agrees.0 t), λ h. agrees.1 (on.1 h))) held)
