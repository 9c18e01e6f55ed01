use Rattle.iam_index.proofs.ListLemmas.{if_some}
use Rattle.iam_columns.specs.Slots.{Keeps}
use Rattle.iam_classes.proofs.words.Words.number.Goals as goal

pub returns-in-Some : goal.returns-in-Some
returns-in-Some c =
    let asker = c.in-Some.asker in
    if_some (Keeps asker.listing.alikes c.args.r) _ c.alike.result (λ n has. (asker, c.in-Some.is, has, c.alike.ensures.alikes)) c.alike.ensures.number
