use Rattle.std.proofs.Common.{◌≡◌, ◌+◌, ◌<◌, ◌≤◌, ◌++◌, ◌∷◌, [], ◌∙◌, List, ℕ, length, ap, sym, take, subst, arith}
use Rattle.std.proofs.lemmas.List.{length-take-le, take_all, take_more}
use Rattle.std.proofs.lemmas.Option.{get_or_from_slice_get, slice_get_within}
use Rattle.iam_services.specs.Services.{AreServices}
use Rattle.iam_index.proofs.elements.found_services.Goals as goal

pub loop-a-preserved : goal.loop-a-preserved
loop-a-preserved c =
    let actions = c.args.world.now.actions in
    let a = c.loop-a.a in
    let text = c.action_text.result.now in
    let below : a < length actions = slice_get_within actions a text c.action_text.ensures in
    let few : a ≤ length actions = omega (arith, below) in
    let all : take (a + 1) actions ≡ take a actions ++ text ∷ [] =
    take_more actions a text below ∙ ap (λ t. take a actions ++ t ∷ []) (get_or_from_slice_get actions a text text c.action_text.ensures) in
    let S : List (List ℕ) → Type 0 = λ ts. AreServices ts c.add.new.self in
    subst S (sym all) (c.in_ok-add.ensures (take a actions) (sym (length-take-le a actions few)) c.loop-a.invariant)

pub returns : goal.returns
returns c =
    let actions = c.args.world.now.actions in
    let past : length actions ≤ c.loop-a.a = omega (arith, c.loop-a-test.false, c.actions-a-end.ensures) in
    let S : List (List ℕ) → Type 0 = λ ts. AreServices ts c.loop-a.services in
    subst S (take_all c.loop-a.a actions past) c.loop-a.invariant
