-- Items that are kept once, and a list of their numbers.
use Rattle.std.specs.Prelude.{◌≡◌, ℕ, ◌≤◌, List, [], ◌∷◌, ◌++◌, Some, get_or, length, map, slice_get}
use Rattle.iam_decision.specs.declared.verdict.Decision.{Decision}
use Rattle.iam_decision.specs.declared.verdict.Decision.TheVariants.{Allowed, ExplicitDeny, ImplicitDeny}
use Rattle.iam_decision.specs.declared.verdict.Verdict.{Verdict}
use Rattle.iam_row.specs.declared.tail.Tail.{Tail}

-- the items of these numbers
abbrev pub picked : {A : Type 0} → A → List A → List ℕ → List A
picked none items numbers = map (λ n. get_or items n none) numbers

-- an item put behind others: its number behind the numbers, and it among the items, of which none left and at most one came
pub record IsPut {A : Type 0} (item : A) (number : ℕ) (items : List A) (numbers : List ℕ) (more_items : List A) (more_numbers : List ℕ) : Type 0 where
  pub kept : (added : List A) × (length added ≤ 1) × (more_items ≡ items ++ added)
  pub found : slice_get more_items number ≡ Some item
  pub behind : more_numbers ≡ numbers ++ number ∷ []

-- what would stand where a number has no item
abbrev pub no_verdict : Verdict
no_verdict = record { decision = ImplicitDeny; statements = []; lacks = [] }

abbrev pub no_tail : Tail
no_tail = record { front = []; back = [] }

-- the decisions by their numbers
abbrev pub all_decisions : List Decision
all_decisions = Allowed ∷ ExplicitDeny ∷ ImplicitDeny ∷ []
