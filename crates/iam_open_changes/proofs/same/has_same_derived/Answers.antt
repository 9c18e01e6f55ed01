use Rattle.std.proofs.Common.{◌∙◌, ℕ, subst, sym}
use Rattle.iam_layers.specs.Cell.{IsDerivedAt}
use Rattle.iam_open.specs.InQuestion.{at_moment}
use Rattle.iam_open_changes.proofs.LookLemmas.{derived_same}
use Rattle.iam_open_changes.proofs.SideLemmas.{moment_seated}
use Rattle.iam_open_changes.proofs.same.has_same_derived.Goals as goal

pub returns : goal.returns
returns c = λ t one other was now has has'.
    let moment = c.moment-moment.result in
    let keys = subst (λ (p : ℕ). IsDerivedAt (at_moment one moment) p was.resource c.in_ok-one.one.items) has.principal
    (c.in_ok-one.ensures one was.resource has.resource) in
    let keys' = subst (λ (p : ℕ). IsDerivedAt (at_moment other moment) p now.resource c.in_ok-other.other.items) has'.principal
    (c.in_ok-other.ensures other now.resource has'.resource) in
    let scene = c.args.before.scene in
    derived_same one other was now moment c.in_ok-one.one.items c.in_ok-other.other.items
    (c.moment-moment.ensures.value ∙ moment_seated scene.world.now scene.target one was.resource has.resource) keys keys'
    (sym c.as_slice.ensures.value ∙ c.are_same_entries.ensures t ∙ c.as_slice-2.ensures.value)
