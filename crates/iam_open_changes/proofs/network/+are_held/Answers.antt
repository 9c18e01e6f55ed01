use Rattle.std.proofs.Common.{◌+◌, refl, rules}
use Rattle.iam_open_changes.specs.declared.network.Network.{Network}
use Rattle.iam_open_changes.proofs.NetworkLemmas.{held_by_halves}
use Rattle.iam_open_changes.proofs.network.+are_held.Goals as goal

pub returns-then-are_held : goal.returns-then-are_held
returns-then-are_held t c = λ yes.
    let network = c.args.network in
    let lower : Network = record { width = network.width; prefix = network.prefix + 1; front = c.in-Some.twice } in
    let upper : Network = record { width = network.width; prefix = network.prefix + 1; front = c.in-Some.twice + 1 } in
    held_by_halves network lower upper c.args.values.now (search rules) refl refl refl refl (search rules) (search rules)
    (c.are_held.ensures c.if-are_held.true) (c.are_held-then-are_held.ensures yes)
