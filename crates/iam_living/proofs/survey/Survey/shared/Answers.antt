use Rattle.std.proofs.Common.{◌≡◌, ◌%◌, ℕ, List, Some, length, ap, sym, ◌∙◌, subst}
use Rattle.std.proofs.lemmas.Option.{slice_get-get_or}
use Rattle.std.specs.List.{slice_get}
use Rattle.iam_layers.specs.Cell.{IsSharedAt}
use Rattle.iam_world.specs.World.{WorldValue}
use Rattle.iam_living.specs.Survey.{IsSharedBy}
use Rattle.iam_index.proofs.ListLemmas.{if_some}
use Rattle.iam_living.proofs.survey.Survey.shared.Goals as goal

pub returns : goal.returns
returns c =
    let survey = c.self.inside in
    let world = survey.world.now in
    let pair = c.in_ok-pair.pair in
    let place = c.in_ok-checked_div.field-0 in
    let block = c.in_ok-block.block.now in
    let (_, first, _, (inside, _), _) = c.in_ok-block.ensures.lookup in
    let B : List WorldValue → Type 0 = λ bs. slice_get bs place ≡ Some block in
    let there = subst B c.deref.ensures.value (slice_get-get_or c.deref.result.now place block inside ∙ ap Some (sym first)) in
    let same : block ≡ world = c.self.invariant.0 place block there in
    if_some (λ s. IsSharedBy block pair s.now) (λ s. IsSharedAt c.args.self.now c.args.p c.args.r s.now) c.shared.result
    (λ s is.
    let W : WorldValue → Type 0 = λ w. IsSharedBy w pair s.now in
    let P : ℕ → Type 0 = λ n. IsSharedAt world n (pair % length world.resources) s.now in
    let R : ℕ → Type 0 = λ n. IsSharedAt world c.args.p n s.now in
    let V : WorldValue → Type 0 = λ w. IsSharedAt w c.args.p c.args.r s.now in
    subst V c.self.view_is (subst R c.in_ok-pair.ensures.resource (subst P c.in_ok-pair.ensures.principal (subst W same is))))
    c.shared.ensures
