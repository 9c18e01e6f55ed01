-- The statements of the applicable policies, each with its place, and which of them match a request.
-- LOGIC 10.2 and 11.1.
use Rattle.std.specs.Prelude.{◌≡◌, ◌⊎◌, ℕ, List, [], ◌∷◌, ◌++◌, Option, get_or, option_and_then}
use Rattle.std.specs.List.{enumerate_from, flat_map, slice_get}
use Rattle.std.specs.Option.{option_to_list}
use Rattle.iam_policy.specs.Reading.{PolicyValue, StatementValue}
use Rattle.iam_match.specs.Statement.{RequestValue, StatementMatches}
use Rattle.iam_decision.specs.Applicable.{ApplicableValue}
use Rattle.iam_decision.specs.declared.place.Layer.{Layer}
use Rattle.iam_decision.specs.declared.place.Layer.TheVariants.{Org, Control, Resource, Identity, Boundary, Session}
use Rattle.iam_decision.specs.declared.place.Place.{Place}

-- a statement and the place where it stands
pub record Placed : Type 0 where
  pub place : Place
  pub statement : StatementValue

-- the statements of a policy, in order
abbrev pub in_policy : Layer → ℕ → ℕ → PolicyValue → List Placed
in_policy layer level policy value =
    flat_map (λ s. record { place = record { layer = layer; level = level; policy = policy; statement = s.0 }; statement = s.1 } ∷ [])
    (enumerate_from 0 value.statements)

-- the statements of the policies of a level, policy by policy
abbrev pub in_level : Layer → ℕ → List PolicyValue → List Placed
in_level layer level policies = flat_map (λ p. in_policy layer level p.0 p.1) (enumerate_from 0 policies)

-- the statements of a layer, level by level
abbrev pub in_layer : Layer → List (List PolicyValue) → List Placed
in_layer layer levels = flat_map (λ l. in_level layer l.0 l.1) (enumerate_from 0 levels)

-- all statements of the applicable policies, in place order; those of layers without levels stand at level 0
abbrev pub placed : ApplicableValue → List Placed
placed a =
    in_layer Org a.org
    ++ (in_layer Control a.control
    ++ (in_level Resource 0 (option_to_list a.resource)
    ++ (in_level Identity 0 a.identity
    ++ (in_level Boundary 0 (option_to_list a.boundary) ++ in_level Session 0 a.session))))

-- the policies of a level of a layer, in order; a layer without levels has one
abbrev pub policies_at : ApplicableValue → Layer → ℕ → List PolicyValue
policies_at a Org level = get_or a.org level []
policies_at a Control level = get_or a.control level []
policies_at a Resource level = option_to_list a.resource
policies_at a Identity level = a.identity
policies_at a Boundary level = option_to_list a.boundary
policies_at a Session level = a.session

-- the statement that stands at a place, if one does
abbrev pub statement_at : ApplicableValue → Place → Option StatementValue
statement_at a place =
    option_and_then (λ policy. slice_get policy.statements place.statement) (slice_get (policies_at a place.layer place.level) place.policy)

-- those of a list that have the property, in the order of the list
abbrev pub Selects : {X : Type 0} → (X → Type 0) → List X → List X → Type 0
Selects P [] chosen = chosen ≡ []
Selects P (x ∷ xs) chosen = (P x × ((rest : List _) × (chosen ≡ x ∷ rest) × Selects P xs rest)) ⊎ (¬ P x × Selects P xs chosen)

-- the statement, which is of an applicable policy, matches the request
abbrev pub IsMatched : RequestValue → Placed → Type 0
IsMatched q s = StatementMatches s.statement q
