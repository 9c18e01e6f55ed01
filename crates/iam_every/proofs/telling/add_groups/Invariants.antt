use Rattle.std.proofs.Common.{◌≡◌, ◌++◌, map, take}
use Rattle.iam_glob.specs.Signs.{signs_in}
use Rattle.iam_every.specs.Groups.{groups_of}
use Rattle.iam_every.specs.Telling.{telling}
use Rattle.iam_every.proofs.telling.add_groups.Given as goal

abbrev pub invariant-loop-group : goal.invariant-loop-group
invariant-loop-group l =
    map (λ g. map signs_in g.items) l.lent.items
    ≡ map (λ g. map signs_in g.items) l.fn.lent.items ++ telling (signs_in l.line) (groups_of (take l.group-index l.groups))
