use Rattle.std.proofs.Common.{◌≡◌, ◌∙◌, ℕ, List, Any, ap, subst, sym, true}
use Rattle.iam_condition.specs.declared.operand.Operand.{Operand}
use Rattle.iam_condition.specs.declared.operator.Operator.{Operator}
use Rattle.iam_context.specs.Context.{is_same_key}
use Rattle.iam_open.specs.Code.Certain.{Tells}
use Rattle.iam_match.specs.Entry.{EntryHolds}
use Rattle.iam_open.specs.Code.Time.{IsInTime, IsNoEarlier, time_key}
use Rattle.iam_open.proofs.CertainLemmas.{tells_same}
use Rattle.iam_open.proofs.TimeLemmas.{in_time, no_quantifier}
use Rattle.iam_open.proofs.time.time_certain.Goals as goal

pub returns-in-Date : goal.returns-in-Date
returns-in-Date c =
    let entry = c.args.entry.now in
    tells_same c.dates_certain.result (IsNoEarlier c.args.context.now) (λ other. Any (IsInTime other c.in-Date.order) entry.values)
    (λ other. EntryHolds other entry)
    (λ other later.
    in_time c.args.context.now other entry c.in-Date.order (sym (ap (λ (o : Operator). o.base) c.operator-operator.ensures) ∙ c.in-Date.is)
    (sym (ap (λ (o : Operator). o.is_negated) c.operator-operator.ensures) ∙ c.if-operator.false)
    (sym (ap (λ (o : Operator). o.quantifier) c.operator-operator.ensures) ∙ no_quantifier c.operator-operator.result.quantifier (sym c.is_some.ensures ∙ c.if-is_some.false))
    (subst (λ (key : List ℕ). is_same_key time_key key ≡ true) c.key.ensures (sym c.is_time.ensures ∙ c.if-not-is_time.false))
    later)
    (subst (λ (values : List Operand). Tells c.dates_certain.result (IsNoEarlier c.args.context.now) (λ other. Any (IsInTime other c.in-Date.order) values))
    c.values.ensures c.dates_certain.ensures)
