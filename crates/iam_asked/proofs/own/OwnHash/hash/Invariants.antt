use Rattle.std.proofs.Common.{◌≡◌, ◌++◌, fold, length, take}
use Rattle.std.specs.List.{flat_map}
use Rattle.std.specs.Hash as fed
use Rattle.iam_asked.specs.Code.Own.{fed_entry}
use Rattle.iam_asked.proofs.own.OwnHash.hash.Given as goal

abbrev pub invariant-loop-entry : goal.invariant-loop-entry
invariant-loop-entry g l =
    l.state ≡ fold g.H.Hasher.write l.fn.state (fed.usize (length l.self) ++ flat_map fed_entry (take l.entry-index l.self))
