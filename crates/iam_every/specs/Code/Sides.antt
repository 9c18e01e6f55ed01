-- What the groups of patterns read that are made of some statements: one for each side, and one for each `NotResource`.
use Rattle.std.specs.Prelude.{◌≡◌, ◌↔◌, ℕ, List, false, true, Contains}
use Rattle.std.specs.List.{Any}
use Rattle.std.specs.Str.{chars}
use Rattle.iam_glob.specs.declared.sign.Sign.{Sign}
use Rattle.iam_kinds.specs.Kinds.{GroupMatches}
use Rattle.iam_context.specs.Context.{ContextValue}
use Rattle.iam_match.specs.Statement.{AccessValue}
use Rattle.iam_decision.specs.Matched.{Placed}
use Rattle.iam_every.specs.Alike.{Meets}
use Rattle.iam_every.specs.Groups.{side_of}
use Rattle.iam_every.specs.OwnGroups.{HasElement}
use Rattle.iam_every.specs.declared.groups.Side.{Side}

-- the group matches just the texts of which P holds
abbrev pub Reads : List (List Sign) → (List ℕ → Type 0) → Type 0
Reads group P = (text : List ℕ) → GroupMatches group (chars text) ↔ P text

-- `Resource` of some statement on the side meets the text
abbrev pub SideMeets : AccessValue → List Placed → Side → List ℕ → Type 0
SideMeets access statements side text =
    Any (λ s. (side_of access.requester s ≡ side) × Meets access.context false text s) statements

-- each group is that of a side, and each side has one on which a statement has `Resource`
pub record ReadSides (access : AccessValue) (statements : List Placed) (groups : List (List (List Sign))) : Type 0 where
  pub only : (group : List (List Sign)) → Contains groups group → (side : Side) × Reads group (SideMeets access statements side)
  pub whole : (s : Placed) → Contains statements s → HasElement false s
      → (group : List (List Sign)) × Contains groups group × Reads group (SideMeets access statements (side_of access.requester s))

-- each group is that of a `NotResource`, and each `NotResource` has one
pub record ReadNegated (context : ContextValue) (statements : List Placed) (groups : List (List (List Sign))) : Type 0 where
  pub only : (group : List (List Sign)) → Contains groups group
      → (s : Placed) × Contains statements s × Reads group (λ text. Meets context true text s)
  pub whole : (s : Placed) → Contains statements s → HasElement true s
      → (group : List (List Sign)) × Contains groups group × Reads group (λ text. Meets context true text s)
