use Rattle.std.proofs.Common.{arith}
use Rattle.iam_kinds.proofs.Members.{same_as, whole}
use Rattle.iam_kinds.proofs.PlaceLemmas.{good_is}
use Rattle.iam_kinds.specs.Code.{good_groups}
use Rattle.iam_kinds.proofs.table.Table.good_groups.Goals as goal

pub returns-clause-good : goal.returns-clause-good
returns-clause-good c = λ g.
    good_is c.args.self.now.patterns.items c.args.places.now c.sorted_numbers.result.items g
    (same_as _ _ _ c.sorted_numbers.ensures.same
    (whole (good_groups c.args.self.now.patterns.items) c.args.places.now c.loop-place.place-index _ (omega arith) c.loop-place.invariant))
