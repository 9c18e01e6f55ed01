use Rattle.std.proofs.Common.{ℕ}
use Rattle.iam_columns.specs.Slots.{Keeps}
use Rattle.iam_columns.specs.declared.numbered.Numbered.{Numbered}
use Rattle.iam_index.proofs.ListLemmas.{if_some}
use Rattle.iam_layers.specs.Cell.{IsVerdictAt}
use Rattle.iam_classes.proofs.EngineLemmas.{of_class}
use Rattle.iam_matrix.specs.Code.Leads.{HasVerdict}
use Rattle.iam_matrix.proofs.leads.place_of.Goals as goal

pub returns : goal.returns
returns c = λ engine verdicts known leads.
    let p = c.args.p in
    let a = c.args.a in
    let r = c.args.r in
    let slot = c.slot_of-slot.result in
    let class = c.in_ok-class.class in
    let of = known c.args.i (record { one = p; other = r; number = class }) c.in_ok-class.ensures.found in
    let lead : ℕ → Numbered = λ place. record { one = class; other = a; number = place } in
    if_some (λ place. Keeps c.args.leads.now slot (lead place)) (HasVerdict engine.world p a r verdicts) c.number_in-2.result
    (λ place there. let (verdict, at, is) = leads slot (lead place) there in
    (verdict, at, of_class engine p r class (λ p r. IsVerdictAt engine.world p a r verdict) of is)) c.number_in-2.ensures.found
