use Rattle.std.proofs.Common.{◌++◌, take}
use Rattle.std.specs.Fmt.{HasWritten, IsPlainFormatter}
use Rattle.std.specs.List.{flat_map}
use Rattle.iam_row.specs.Words.{layer_word}
use Rattle.iam_row.proofs.words.LayersDisplay.fmt.Given as goal

abbrev pub invariant-loop-layer : goal.invariant-loop-layer
invariant-loop-layer g l =
    IsPlainFormatter l.initial.f → HasWritten g.W.Write.write_str_gives l.initial.f (flat_map (λ x. l.between ++ (l.mark ++ (layer_word x ++ l.mark))) (take l.layer-index l.rest)) l.f
