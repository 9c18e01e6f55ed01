use Rattle.std.proofs.Common.{subst}
use Rattle.iam_asked.specs.Request.{RequestsValue}
use Rattle.iam_asked.specs.Size.{AreSmall}
use Rattle.iam_asked.proofs.requests.Requests.count.Goals as goal

pub returns-clause-small : goal.returns-clause-small
returns-clause-small c =
    let own = c.self.inside in
    subst (λ (v : RequestsValue). AreSmall v.asked) c.self.view_is (own.size, (own.contexts.keys, c.self.invariant.keys, c.self.invariant.size_is), c.self.invariant.most)
