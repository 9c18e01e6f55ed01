use Rattle.std.proofs.Common.{List, map, subst}
use Rattle.iam_decision.specs.Code.Scan.{placed_value}
use Rattle.iam_decision.specs.declared.scan.Standing.{Standing}
use Rattle.iam_living.specs.Living.{ConcernNone}
use Rattle.iam_living.proofs.asker.Asker.none_concerns.Goals as goal

pub returns : goal.returns
returns c = λ listed at yes.
    let L : List Standing → Type 0 = λ z. ConcernNone c.args.self.now.requester.now (map placed_value z) in
    subst L (c.statements.ensures listed at) (c.concern_none.ensures yes)
