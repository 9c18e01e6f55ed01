use Rattle.std.proofs.Common.{◌<◌, ℕ, List, get_or}
use Rattle.std.specs.Str.{chars}
use Rattle.iam_glob.specs.Glob.{MatchesFold}
use Rattle.iam_services.specs.Services.{numbers_of}
use Rattle.iam_layers.specs.Cell.{IsAction}
use Rattle.iam_index.proofs.elements.some_tried.Given as goal

abbrev pub invariant-loop-i : goal.invariant-loop-i
invariant-loop-i l =
    (k : ℕ) (text : List ℕ) → k < l.i → IsAction l.world (get_or (numbers_of l.tried) k 0) text → ¬ MatchesFold l.pattern (chars text)
