use Rattle.std.proofs.Common.{◌≡◌, ◌++◌, List, map}
use Rattle.std.specs.List.{AllZip}
use Rattle.std.specs.Slice.Iter.{chunks_rest, chunks_size}
use Rattle.iam_every_changes.specs.Code.Told.{IsLookedAt}
use Rattle.iam_every_changes.specs.Compared.{compared_of, who_of}
use Rattle.iam_every_changes.specs.declared.compared.Who.{Who}
use Rattle.iam_every_changes.proofs.crew.looked_at_all.Given as goal

-- what is told of the principals so far
abbrev pub invariant-loop-some : goal.invariant-loop-some
invariant-loop-some g l =
    (goal.iterator-loop-some g).can_next l.some-iterator
    × (goal.iterator-loop-some g).is_finite l.some-iterator
    × (chunks_size l.some-iterator ≡ 4096)
    × ((done : List Who) × (done ++ chunks_rest l.some-iterator ≡ l.whos)
    × AllZip (IsLookedAt (compared_of l.fn.compared)) (map who_of done) l.all.items)
