use Rattle.std.proofs.Common.{map, ◌∙◌}
use Rattle.std.proofs.lemmas.Iterator.{YieldsList-from_slice, YieldsList-from_zip}
use Rattle.std.proofs.lemmas.Iterator.Adapters.{YieldsList-from_vec}
use Rattle.std.proofs.lemmas.Iterator.Consumers.{YieldsList-at, YieldsList-end}
use Rattle.iam_shape.specs.Lent.{account_of}
use Rattle.iam_world.specs.Code.Made.{made_account}
use Rattle.iam_world.proofs.Yields.{yields_mapped}
use Rattle.iam_world.proofs.parts.accounts.Goals as goal

pub returns : goal.returns
returns c =
    let views = yields_mapped account_of (YieldsList-from_slice c.args.accounts.now c.iter.ensures.rest) in
    let zip = c.zip-account-items.ensures in
    let org = YieldsList-from_vec c.args.org.items zip.second.0 (zip.second.1 ∙ c.args.org.ok.0) in
    let all = YieldsList-from_zip (YieldsList-at zip.first views) org in
    let made = yields_mapped (λ p. made_account (p.0, map (λ level. level.items) p.1.items)) all in
    let at = c.loop-account in
    let yields = YieldsList-at c.into_iter-account-iterator.ensures.into_iter_gives made in
    at.invariant ∙ (YieldsList-end yields at.yielded _ at.yielded_by _ c.next.new.self c.in-None.is c.next.ensures.steps).0
