use Rattle.std.proofs.Common.{◌≡◌, drop, map}
use Rattle.std.specs.List.{list_any}
use Rattle.iam_glob.specs.Signs.{signs_in}
use Rattle.iam_every.specs.Telling.{covers}
use Rattle.iam_every.proofs.telling.cover.Given as goal

abbrev pub invariant-loop-signs : goal.invariant-loop-signs
invariant-loop-signs l =
    list_any (λ own. covers own (signs_in l.line)) (map signs_in (drop l.signs-index l.patterns))
    ≡ list_any (λ own. covers own (signs_in l.line)) (map signs_in l.patterns)
