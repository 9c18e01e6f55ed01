use Rattle.std.proofs.Common.{◌≡◌, fold, take}
use Rattle.std.specs.List.{flat_map}
use Rattle.std.specs.Hash as fed
use Rattle.iam_asked.proofs.own.hash_entry.Given as goal

abbrev pub invariant-loop-text : goal.invariant-loop-text
invariant-loop-text g l = l.state ≡ fold g.H.Hasher.write l.initial.state (flat_map fed.str (take l.text-index l.texts))
