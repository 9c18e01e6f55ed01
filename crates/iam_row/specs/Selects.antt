-- Which requests are selected, by their texts. LOGIC 13.6.
use Rattle.std.specs.Prelude.{◌≡◌, ◌⊎◌, List, [], Any, chars}
use Rattle.iam_glob.specs.Glob.{Matches, MatchesFold}
use Rattle.iam_glob.specs.declared.sign.Sign.{Sign}
use Rattle.iam_decision.specs.declared.verdict.Decision.{Decision}
use Rattle.iam_row.specs.Report.{CellTexts}

-- patterns of principals, of actions and of resources, and decisions
pub record SelectionValue : Type 0 where
  pub principals : List (List Sign)
  pub actions : List (List Sign)
  pub resources : List (List Sign)
  pub decisions : List Decision

-- nothing is said, and all are meant; or one of those that are said is right
abbrev pub IsMeant : {A : Type 0} → (A → Type 0) → List A → Type 0
IsMeant Is said = (said ≡ []) ⊎ Any Is said

-- a request with these texts is selected: each matches a pattern, an action without regard to case
pub record Selects (selection : SelectionValue) (texts : CellTexts) : Type 0 where
  pub principal : IsMeant (λ pattern. Matches pattern (chars texts.principal)) selection.principals
  pub action : IsMeant (λ pattern. MatchesFold pattern (chars texts.action)) selection.actions
  pub resource : IsMeant (λ pattern. Matches pattern (chars texts.resource)) selection.resources
