use Rattle.std.proofs.Common.{map, ◌∙◌}
use Rattle.std.proofs.lemmas.Iterator.{YieldsList-from_slice, YieldsList-from_zip}
use Rattle.std.proofs.lemmas.Iterator.Adapters.{YieldsList-from_vec}
use Rattle.std.proofs.lemmas.Iterator.Consumers.{YieldsList-at, YieldsList-end}
use Rattle.iam_shape.specs.Lent.{resource_of}
use Rattle.iam_world.specs.Code.Made.{made_resource}
use Rattle.iam_world.proofs.Yields.{yields_mapped}
use Rattle.iam_world.proofs.parts.resources.Goals as goal

pub returns : goal.returns
returns c =
    let views = yields_mapped resource_of (YieldsList-from_slice c.args.resources.now c.iter.ensures.rest) in
    let zip = c.zip.ensures in
    let policies = YieldsList-from_vec c.args.policies.items zip.second.0 (zip.second.1 ∙ c.args.policies.ok.0) in
    let zip-2 = c.zip-2.ensures in
    let control = YieldsList-from_vec c.args.control.items zip-2.second.0 (zip-2.second.1 ∙ c.args.control.ok.0) in
    let zip-3 = c.zip-resource-items.ensures in
    let contexts = YieldsList-from_vec c.args.contexts.items zip-3.second.0 (zip-3.second.1 ∙ c.args.contexts.ok.0) in
    let with_policies = YieldsList-from_zip (YieldsList-at zip.first views) policies in
    let with_control = YieldsList-from_zip (YieldsList-at zip-2.first with_policies) control in
    let all = YieldsList-from_zip (YieldsList-at zip-3.first with_control) contexts in
    let made = yields_mapped (λ p. made_resource ((p.0.0, map (λ level. level.items) p.0.1.items), p.1.items)) all in
    let at = c.loop-resource in
    let yields = YieldsList-at c.into_iter-resource-iterator.ensures.into_iter_gives made in
    at.invariant ∙ (YieldsList-end yields at.yielded _ at.yielded_by _ c.next.new.self c.in-None.is c.next.ensures.steps).0
