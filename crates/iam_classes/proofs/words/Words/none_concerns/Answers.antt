use Rattle.std.proofs.Common.{sym, subst, ◌∙◌}
use Rattle.iam_index.proofs.ListLemmas.{some_same}
use Rattle.iam_living.specs.Asker.{IsAsker}
use Rattle.iam_classes.proofs.words.Words.none_concerns.Goals as goal

pub returns-in-Some-clause-none : goal.returns-in-Some-clause-none
returns-in-Some-clause-none c = λ yes world asker is asked.
    let same = some_same c.in-Some.asker asker (sym c.in-Some.is ∙ is) in
    c.none_concerns.ensures.none world asker.principal (subst (IsAsker world asker.principal) (sym same) asked) yes
