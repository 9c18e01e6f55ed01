-- Statements that are added to those that are listed, and what is the same in contexts that agree on what is known and on some keys.
-- LOGIC 4.3, 7.1 and 11.11.
use Rattle.std.specs.Prelude.{◌≡◌, ◌⊎◌, ◌++◌, ℕ, List, [], ◌∷◌, map}
use Rattle.std.specs.List.{flat_map}
use Rattle.iam_context.specs.Context.{ContextValue}
use Rattle.iam_decision.specs.Matched.{IsMatched, Placed}
use Rattle.iam_decision.specs.declared.place.Place.{Place}
use Rattle.iam_match.specs.Statement.{AccessValue}
use Rattle.iam_open.specs.Asks.{all_added, keys_asked}
use Rattle.iam_open.specs.Code.Certain.{Contexts, Tells}
use Rattle.iam_open.specs.Code.Known.{AgreeOn, Follows, request_in}
use Rattle.iam_open.specs.Hangs.{AreChosen, IsAsking}
use Rattle.iam_open.specs.declared.certain.Certain.TheVariants.{Always, Never}
use Rattle.iam_open.specs.declared.hangs.Hangs.{Hangs}

-- what holds in one of two contexts that agree on what is known and on these keys holds in the other
abbrev pub IsSameOn : List (List ℕ) → List (List ℕ) → Contexts → Type 0
IsSameOn known keys holds = (one other : ContextValue) → AgreeOn known one other → AgreeOn keys one other → holds one → holds other

-- where both agree with this one on what is known, and are at no earlier moment
abbrev pub IsSameFrom : List (List ℕ) → ContextValue → List (List ℕ) → Contexts → Type 0
IsSameFrom known base keys holds =
    (one other : ContextValue) → Follows known base one → Follows known base other → AgreeOn keys one other → holds one → holds other

-- it holds in each of these contexts, or in none of them
abbrev pub IsCertain : Contexts → Contexts → Type 0
IsCertain Are holds = Tells Always Are holds ⊎ Tells Never Are holds

-- whether the statement matches the request is certain in the contexts that agree with that of the access on what is known
abbrev pub IsTold : List (List ℕ) → AccessValue → List ℕ → Placed → Type 0
IsTold known access action s = IsCertain (Follows known access.context) (λ other. IsMatched (request_in access action other) s)

-- the statement may turn the request: its place and the keys that it asks for are put behind those before
pub record IsPut (known : List (List ℕ)) (access : AccessValue) (action : List ℕ) (s : Placed) (before after : Hangs) : Type 0 where
  pub asking : IsAsking known access action s.statement
  pub places_are : after.places.items ≡ before.places.items ++ (s.place ∷ [])
  pub keys_are : after.keys.items ≡ all_added known before.keys.items (keys_asked s.statement)

-- it is put there, or all is as before, and it is certain whether it matches
abbrev pub IsAdded : List (List ℕ) → AccessValue → List ℕ → Placed → Hangs → Hangs → Type 0
IsAdded known access action s before after = IsPut known access action s before after ⊎ (IsTold known access action s × (after ≡ before))

-- some of these statements are listed, in their order, with their places and their keys; of each other one it is certain whether it matches
pub record AreListedIn (known : List (List ℕ)) (access : AccessValue) (action : List ℕ) (statements : List Placed) (places : List Place)
    (keys : List (List ℕ)) : Type 0 where
  pub listed : List Placed
  pub chosen : AreChosen (λ s. IsAsking known access action s.statement) (IsTold known access action) statements listed
  pub places_are : places ≡ map (λ s. s.place) listed
  pub keys_are : keys ≡ all_added known [] (flat_map (λ s. keys_asked s.statement) listed)
