use Rattle.std.proofs.Common.{◌≡◌, ◌+◌, ◌-◌, ℕ, List, Some, ap, sym, ◌∙◌, subst, arith}
use Rattle.std.proofs.lemmas.Option.{slice_get-get_or}
use Rattle.std.specs.List.{slice_get}
use Rattle.iam_decision.specs.Living.{SharedValue}
use Rattle.iam_world.specs.World.{WorldValue}
use Rattle.iam_living.specs.Survey.{IsSharedBy}
use Rattle.iam_index.proofs.ListLemmas.{some_same}
use Rattle.iam_living.proofs.survey.Block.shared.Goals as goal

pub returns : goal.returns
returns c =
    let block = c.self.inside in
    let place = c.args.pair - block.from in
    let number = c.in_ok-number.field-0.now in
    let found = c.in_ok-shared.shared.now in
    let (_, first, _, (inside, _), _) = c.in_ok-number.ensures.lookup in
    let (_, second, _, (within, _), _) = c.in_ok-shared.ensures.lookup in
    let N : List ℕ → Type 0 = λ ns. slice_get ns place ≡ Some number in
    let S : List SharedValue → Type 0 = λ ss. slice_get ss number ≡ Some found in
    let there = subst N c.deref.ensures.value (slice_get-get_or c.deref.result.now place number inside ∙ ap Some (sym first)) in
    let here = subst S c.deref-2.ensures.value (slice_get-get_or c.deref-2.result.now number found within ∙ ap Some (sym second)) in
    let (shared, at, is) = c.self.invariant place number there in
    let own : shared ≡ found = some_same shared found (sym at ∙ here) in
    let pair : block.from + place ≡ c.args.pair = omega (arith, c.if-pair-self.false) in
    let P : ℕ → Type 0 = λ n. IsSharedBy block.world.now n found in
    let Q : SharedValue → Type 0 = IsSharedBy block.world.now (block.from + place) in
    let W : WorldValue → Type 0 = λ w. IsSharedBy w c.args.pair found in
    subst W c.self.view_is (subst P pair (subst Q own is))
