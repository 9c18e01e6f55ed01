use Rattle.std.proofs.Common.{◌≡◌, ◌++◌, ℕ, List}
use Rattle.std.specs.List.{AllZip}
use Rattle.std.specs.Slice.Iter.{chunks_rest, chunks_size}
use Rattle.iam_every.specs.Every.{every_of}
use Rattle.iam_open_every.specs.Code.Texts.{IsChosen}
use Rattle.iam_open_every.proofs.crew.chosen_of_all.Given as goal

-- those of the principals so far
abbrev pub invariant-loop-some : goal.invariant-loop-some
invariant-loop-some g l =
    (goal.iterator-loop-some g).can_next l.some-iterator
    × (goal.iterator-loop-some g).is_finite l.some-iterator
    × (chunks_size l.some-iterator ≡ 4096)
    × ((done : List ℕ) × (done ++ chunks_rest l.some-iterator ≡ l.principals)
    × AllZip (IsChosen l.brief (every_of l.fn.asked) l.words) done l.all.items)
