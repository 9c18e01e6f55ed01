use Rattle.std.proofs.Common.{◌≡◌, Some, false, ap, sym, ◌∙◌, subst}
use Rattle.std.proofs.lemmas.Option.{slice_get-get_or, slice_get_within}
use Rattle.iam_index.specs.Elements.{MatchesNone}
use Rattle.iam_index.specs.declared.elements.Element.{Element}
use Rattle.iam_index.proofs.ListLemmas.{some_same}
use Rattle.iam_index.proofs.elements.Elements.concerns.Goals as goal

pub returns-in-Some-clause-idle : goal.returns-in-Some-clause-idle
returns-in-Some-clause-idle c = λ none.
    let elements = c.args.self.now.elements.items in
    let n = c.in-Some.number in
    let here = c.index.result.now in
    let (element, at, same) = c.in-Some.ensures in
    let there = slice_get-get_or elements n here (slice_get_within elements n element at) ∙ ap Some (sym c.index.ensures) in
    let own : here ≡ element = some_same here element (sym there ∙ at) in
    let F : Element → Type 0 = λ e. e.some ≡ false in
    subst (MatchesNone c.args.world.now) same ((c.requires.elements_are n element at).idle (subst F own none))

pub returns-in-Ok-clause-right : goal.returns-in-Ok-clause-right
returns-in-Ok-clause-right c = c.add.ensures.right c.args.world.now c.in-Ok.ensures.0 c.requires

pub returns-in-Ok-clause-idle : goal.returns-in-Ok-clause-idle
returns-in-Ok-clause-idle c = λ none.
    subst (MatchesNone c.args.world.now) c.in-Ok.ensures.1 (c.in-Ok.ensures.0.idle (sym c.add.ensures.same ∙ none))
