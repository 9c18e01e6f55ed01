-- Which actions action elements match, as it is kept.
use Rattle.std.specs.Prelude.{◌≡◌, ℕ, Bool, false, List, None, Option, Some, get_or}
use Rattle.std.specs.List.{slice_get}
use Rattle.iam_match.specs.Statement.{ActionMatches}
use Rattle.iam_decision.specs.Matched.{Placed}
use Rattle.iam_every.specs.Code.Picked.{TellEach}
use Rattle.iam_every.specs.declared.acting.ElementActs.{ElementActs}

-- the bits tell of each action whether the element matches it
abbrev pub IsActing : List (List ℕ) → ElementActs → Type 0
IsActing actions one = TellEach (ActionMatches one.element.now) actions one.acts.items

-- the number is that of the statement's action element
abbrev pub IsActingFor : List ElementActs → Placed → ℕ → Type 0
IsActingFor known s n = (one : ElementActs) × (slice_get known n ≡ Some one) × (one.element.now ≡ s.statement.action)

-- bit i of one of them, where there is none not set
abbrev pub bit_in : Option ElementActs → ℕ → Bool
bit_in None i = false
bit_in (Some one) i = get_or one.acts.items i false

abbrev pub acts_in : List ElementActs → ℕ → ℕ → Bool
acts_in known i n = bit_in (slice_get known n) i
