use Rattle.iam_kinds.proofs.NodeLemmas.{root_is}
use Rattle.iam_kinds.proofs.asked.Asked.root.Goals as goal

pub returns-clause-at : goal.returns-clause-at
returns-clause-at c =
    root_is c.args.self.now (record { text = c.new.result; stage = c.first.result; places = c.in_ok-places.places; tails = c.in_ok-lent.field-0 })
    c.requires c.new.ensures.items c.first.ensures c.in_ok-places.ensures.rising c.in_ok-places.ensures.same c.in_ok-lent.ensures
