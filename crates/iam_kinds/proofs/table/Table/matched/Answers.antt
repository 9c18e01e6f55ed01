use Rattle.std.proofs.Common.{arith}
use Rattle.iam_kinds.proofs.Members.{same_as, whole}
use Rattle.iam_kinds.specs.Code.{matched_groups}
use Rattle.iam_kinds.proofs.table.Table.matched.Goals as goal

pub returns-clause-matched : goal.returns-clause-matched
returns-clause-matched c =
    same_as _ _ _ c.sorted_numbers.ensures.same
    (whole (matched_groups c.args.self.now.patterns.items) c.args.places.now c.loop-place.place-index _ (omega arith) c.loop-place.invariant)
