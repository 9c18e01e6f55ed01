use Rattle.std.proofs.Common.{◌≡◌, map, take}
use Rattle.iam_glob.specs.Signs.{signs_in}
use Rattle.iam_every.proofs.actions.Elements.groups.Given as goal

abbrev pub invariant-loop-element : goal.invariant-loop-element
invariant-loop-element l =
    map (λ g. map signs_in g.items) l.groups.items ≡ map (λ e. e.now.patterns) (take l.element-index l.self.listed.items)
