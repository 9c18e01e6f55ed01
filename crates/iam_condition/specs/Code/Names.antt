-- How the code takes names of operators apart, beside `Operator`.
use Rattle.std.specs.Prelude.{ℕ, ◌-◌, List, Bool, Option, Some, None, length, take, drop, nat_eq, option_map, if◌then◌else◌}
use Rattle.std.specs.Borrow.{Bor}
use Rattle.std.specs.List.{find, starts_with, ends_with}
use Rattle.std.specs.Str.{bytes_eq}
use Rattle.iam_condition.specs.declared.operator.Base.{Base}
use Rattle.iam_condition.specs.Operator.{Row}

-- what follows a word at the front of a text
abbrev pub text_behind : List ℕ → List ℕ → Option (List ℕ)
text_behind text word = if starts_with nat_eq text word then Some (drop (length word) text) else None

-- what stands before a word at the end of a text
abbrev pub text_before : List ℕ → List ℕ → Option (List ℕ)
text_before text word = if ends_with nat_eq text word then Some (take (length text - length word) text) else None

-- the row of a table of the code
abbrev pub row_of : Bor (List ℕ) × Base × Bool → Row
row_of row = record { name = row.0.now; base = row.1; negated = row.2 }

-- the base of the first row of that name, and whether it is negated
abbrev pub base_among : List Row → List ℕ → Option (Base × Bool)
base_among rows name = option_map (λ row. (row.base, row.negated)) (find (λ row. bytes_eq name row.name) rows)
