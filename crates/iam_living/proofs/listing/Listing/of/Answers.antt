use Rattle.std.proofs.Common.{map}
use Rattle.iam_decision.specs.Code.Scan.{placed_value}
use Rattle.iam_index.proofs.IndexLemmas.{parts_listed}
use Rattle.iam_living.proofs.listing.Listing.of.Goals as goal

pub returns-clause-lists : goal.returns-clause-lists
returns-clause-lists c = λ r applicable listed at lists.
    parts_listed c.args.index.now.actions applicable (map placed_value c.theirs-org.result.org.statements) (map placed_value listed)
    (map placed_value c.theirs-org.result.own.statements) (c.theirs-org.ensures.org r applicable at) (lists c.args.p applicable at)
    (c.theirs-org.ensures.own r applicable at)
