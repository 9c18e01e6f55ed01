-- Places of patterns, and their order. LOGIC 2.2.
use Rattle.std.specs.Prelude.{List}
use Rattle.std.specs.List.Sorted.{IsStrictlySortedBy}
use Rattle.std.specs.Ordering.{nat_cmp, on, then_cmp}
use Rattle.std.specs.declared.cmp.Ordering.{Ordering}
use Rattle.iam_kinds.specs.declared.table.Place.{Place}

-- by the numbers of their patterns, then by the signs before them
abbrev pub place_cmp : Place → Place → Ordering
place_cmp = then_cmp (on (λ k. k.pattern) nat_cmp) (on (λ k. k.at) nat_cmp)

-- in order, each once
abbrev pub IsRising : List Place → Type 0
IsRising places = IsStrictlySortedBy place_cmp places
