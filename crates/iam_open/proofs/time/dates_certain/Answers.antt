use Rattle.std.proofs.Common.{◌+◌, ℤ, Any, FitsSigned, arith, subst, sym, take}
use Rattle.std.proofs.lemmas.Int.{to_z-of_z}
use Rattle.std.specs.Int.{w128}
use Rattle.iam_open.specs.Code.Certain.{Tells}
use Rattle.iam_open.specs.Code.Time.{DateTells, IsInTime, IsNoEarlier}
use Rattle.iam_open.specs.declared.certain.Certain.{Certain}
use Rattle.iam_open.proofs.CertainLemmas.{tells_some_more, tells_taken_some}
use Rattle.iam_open.proofs.TimeLemmas.{date_tells}
use Rattle.iam_open.proofs.time.dates_certain.Goals as goal

pub loop-value-preserved : goal.loop-value-preserved
loop-value-preserved c =
    let Are = IsNoEarlier c.args.context.now in
    let values = c.args.values.now in
    let order = c.args.order in
    let i = c.loop-value.value-index in
    let now = c.in-Some.now in
    let fits : FitsSigned w128 now = search in
    let told = subst (λ (z : ℤ). DateTells c.date_certain.result order z c.value-item.result) (to_z-of_z w128 now fits) c.date_certain.ensures in
    subst (λ (x : Certain). Tells x Are (λ other. Any (IsInTime other order) (take (i + 1) values))) (sym c.or-certain.ensures)
    (tells_some_more (λ other value. IsInTime other order value) Are values i c.value-item.result c.loop-value.certain c.date_certain.result
    c.loop-value-test.true c.value-item.is c.loop-value.invariant
    (date_tells c.one_moment.ensures c.args.context.now now order c.value-item.result c.date_certain.result c.in-Some.ensures told))

pub returns : goal.returns
returns c =
    tells_taken_some (λ other value. IsInTime other c.args.order value) (IsNoEarlier c.args.context.now) c.args.values.now
    c.loop-value.value-index c.loop-value.certain (omega (arith, c.loop-value-test.false)) c.loop-value.invariant
