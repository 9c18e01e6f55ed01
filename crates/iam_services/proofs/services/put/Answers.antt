use Rattle.std.proofs.Common.{◌≤◌, ◌<◌, Some, length, ap, sym, ◌∙◌, arith}
use Rattle.std.proofs.lemmas.Option.{slice_get-get_or}
use Rattle.iam_services.proofs.ServiceLemmas.{puts_nowhere, puts_set}
use Rattle.iam_services.proofs.services.put.Goals as goal

pub returns-in_ok-push : goal.returns-in_ok-push
returns-in_ok-push c =
    let slots = c.args.slots.now.items in
    let before = c.index_mut.result.now in
    let within : c.args.slot < length slots = omega (arith, c.if-slot-len.true, c.len.ensures) in
    puts_set slots c.args.slot c.args.number before c.push.new.self
    (slice_get-get_or slots c.args.slot before within ∙ ap Some (sym c.index_mut.ensures.value)) c.in_ok-push.ensures.items

pub returns-else-slot-len : goal.returns-else-slot-len
returns-else-slot-len c =
    let past : length c.args.slots.now.items ≤ c.args.slot = omega (arith, c.if-slot-len.false, c.len.ensures) in
    puts_nowhere c.args.slots.now.items c.args.slot c.args.number past
