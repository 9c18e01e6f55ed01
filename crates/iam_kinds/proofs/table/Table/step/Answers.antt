use Rattle.std.proofs.Common.{◌∙◌, IfOk, List, subst, sym}
use Rattle.iam_kinds.specs.Code.{AreIn, SameElements, settled_places}
use Rattle.iam_kinds.specs.declared.table.Place.{Place}
use Rattle.iam_kinds.proofs.StepLemmas.{moves_in}
use Rattle.iam_kinds.proofs.table.Table.step.Goals as goal

pub settled-requires : goal.settled-requires
settled-requires c =
    let t = c.args.self.now.patterns.items in
    subst (AreIn t) (sym (c.deref.ensures.value ∙ c.in_ok-moved.ensures)) (moves_in t c.args.places.now c.args.letter c.requires.places_in)

pub returns-clause-same : goal.returns-clause-same
returns-clause-same c =
    let P : List Place → Type 0 = λ l. IfOk c.settled.result (λ v. SameElements v.items (settled_places c.args.self.now.patterns.items l)) in
    subst P (c.deref.ensures.value ∙ c.in_ok-moved.ensures) c.settled.ensures.same
