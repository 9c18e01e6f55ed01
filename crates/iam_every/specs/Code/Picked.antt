-- Which of some statements are picked, by bits.
use Rattle.std.specs.Prelude.{◌↔◌, ◌&&◌, Bool, true, false, IsTrue, List, [], ◌∷◌, ℕ, All}
use Rattle.std.specs.List.{AllZip}
use Rattle.iam_match.specs.Entry.{EntryHolds}
use Rattle.iam_match.specs.Principal.{PrincipalMatches}
use Rattle.iam_match.specs.Statement.{AccessValue, ActionMatches}
use Rattle.iam_decision.specs.Matched.{Placed}

-- those of a list that bits pick
abbrev pub picked : {X : Type 0} → List X → List Bool → List X
picked [] bits = []
picked (x ∷ xs) [] = []
picked (x ∷ xs) (true ∷ bits) = x ∷ picked xs bits
picked (x ∷ xs) (false ∷ bits) = picked xs bits

-- that two lists pick
abbrev pub both : List Bool → List Bool → List Bool
both [] others = []
both (bit ∷ bits) [] = []
both (bit ∷ bits) (other ∷ others) = (bit && other) ∷ both bits others

-- the bits tell of each member whether P holds
abbrev pub TellEach : {X : Type 0} → (X → Type 0) → List X → List Bool → Type 0
TellEach P xs bits = AllZip (λ x bit. IsTrue bit ↔ P x) xs bits

-- all elements of the statement match but those about actions and resources
pub record IsEligible (access : AccessValue) (s : Placed) : Type 0 where
  pub principal : PrincipalMatches s.statement.principal access.requester
  pub conditions : All (EntryHolds access.context) s.statement.conditions

-- its action element matches the action
abbrev pub ActsOn : List ℕ → Placed → Type 0
ActsOn action s = ActionMatches s.statement.action action
