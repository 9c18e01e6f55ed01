-- Sets of lists of numbers, by the lists that they have. LOGIC 2.2.
use Rattle.std.specs.Prelude.{ℕ, List, map}
use Rattle.iam_kinds.specs.declared.lists.Lists.{Lists}

abbrev pub lists_in : Lists → List (List ℕ)
lists_in set = map (λ list. list.items) set.lists.keys
