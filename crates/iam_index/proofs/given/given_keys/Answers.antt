use Rattle.std.proofs.Common.{◌++◌, ◌∙◌, ◌≤◌, ℕ, List, arith, length, take, ap, sym, subst}
use Rattle.std.proofs.lemmas.List.{take_all}
use Rattle.std.specs.List.{flat_map}
use Rattle.iam_context.specs.Context.{ContextValue, keys_of}
use Rattle.iam_unasked.specs.Names.{HasNames}
use Rattle.iam_world.specs.World.{ResourceValue}
use Rattle.iam_index.proofs.GivenLemmas.{given_more}
use Rattle.iam_index.proofs.given.given_keys.Goals as goal

pub loop-r-preserved : goal.loop-r-preserved
loop-r-preserved c =
    let resources = c.args.world.now.resources in
    let r = c.loop-r.r in
    let before = flat_map (λ (x : ResourceValue). keys_of x.context) (take r resources) in
    let (resource, at, is) = c.resource_part.ensures in
    let H : List (List ℕ) → Type 0 = λ list. HasNames c.add.new.self list in
    subst H (ap (λ (part : ContextValue). before ++ keys_of part) is ∙ sym (given_more resources r resource at))
    (c.in_ok-add.ensures before c.loop-r.invariant)

pub returns : goal.returns
returns c =
    let resources = c.args.world.now.resources in
    let past : length resources ≤ c.loop-r.r = omega (arith, c.loop-r-test.false, c.resources-r-end.ensures) in
    let H : List ResourceValue → Type 0 = λ all. HasNames c.loop-r.keys (flat_map (λ (x : ResourceValue). keys_of x.context) all) in
    subst H (take_all c.loop-r.r resources past) c.loop-r.invariant
