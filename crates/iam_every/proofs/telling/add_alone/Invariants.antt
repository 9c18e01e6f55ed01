use Rattle.std.proofs.Common.{◌≡◌, ◌++◌, ◌∷◌, [], map, take}
use Rattle.iam_glob.specs.Signs.{signs_in}
use Rattle.iam_every.specs.Telling.{telling}
use Rattle.iam_every.proofs.telling.add_alone.Given as goal

abbrev pub invariant-loop-signs : goal.invariant-loop-signs
invariant-loop-signs l =
    map (λ g. map signs_in g.items) l.lent.items
    ≡ map (λ g. map signs_in g.items) l.fn.lent.items
    ++ telling (signs_in l.line) (map (λ pattern. pattern ∷ []) (map signs_in (take l.signs-index l.patterns)))
