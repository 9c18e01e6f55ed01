-- The groups of patterns by which statements read the text of a resource in all contexts that agree on what is known: AWS IAM User Guide,
-- "IAM JSON policy elements: Resource", "NotResource", and "IAM policy elements: Variables and tags". LOGIC 4.3, 11.2 and 11.12.
use Rattle.std.specs.Prelude.{◌≡◌, ◌++◌, ◌∷◌, ℕ, List, [], Bool, false, Option, None, Some, if◌then◌else◌, option_map}
use Rattle.std.specs.List.{list_any}
use Rattle.std.specs.Str.{chars}
use Rattle.iam_context.specs.Context.{ContextValue}
use Rattle.iam_decision.specs.Applicable.{ApplicableValue}
use Rattle.iam_decision.specs.Matched.{Placed, placed}
use Rattle.iam_element.specs.Reading.{ResourceElement}
use Rattle.iam_every.specs.Groups
use Rattle.iam_every.specs.OwnGroups.{patterns_in}
use Rattle.iam_glob.specs.declared.sign.Sign.{Sign}
use Rattle.iam_match.specs.Statement.{AccessValue}
use Rattle.iam_open.specs.Code.Known.{AgreeOn, Follows, text_beyond}
use Rattle.iam_open_every.specs.Alike.{AreReadAlike, AreReadAlikeBy}
use Rattle.iam_open_every.specs.Concerned.{AreConcerned}

-- in each context that agrees with this one on the keys that are known, the statements read alike whatever texts the groups agree on
abbrev pub AreOpenGroups : List (List ℕ) → ContextValue → List Placed → List (List (List Sign)) → Type 0
AreOpenGroups known context statements groups =
    (here : ContextValue) (one other : List ℕ) → AgreeOn known context here → Groups.AgreeOn groups (chars one) (chars other)
    → AreReadAlike here statements one other

-- a text of the element asks for a key that is not known
abbrev pub element_beyond : List (List ℕ) → Option ResourceElement → Bool
element_beyond known None = false
element_beyond known (Some element) = list_any (text_beyond known) element.texts

-- the group of an element: the patterns that its texts become
abbrev pub element_groups : ContextValue → Option ResourceElement → List (List (List Sign))
element_groups context None = []
element_groups context (Some element) = patterns_in context (Some element) ∷ []

-- those of all elements, unless a text of one of them asks for a key that is not known
abbrev pub groups_at : List (List ℕ) → ContextValue → List Placed → Option (List (List (List Sign)))
groups_at known context [] = Some []
groups_at known context (s ∷ statements) =
    if element_beyond known s.statement.resource then None else
    option_map (λ rest. element_groups context s.statement.resource ++ rest) (groups_at known context statements)

-- where they are those of all statements that may concern requests, texts that they agree on are read alike by all that apply, in each
-- context that agrees with the one that is looked at on what is known, and is at no earlier moment
abbrev pub AgreeingTextsAreReadAlike : Type 0
AgreeingTextsAreReadAlike =
    (a : ApplicableValue) (looked access : AccessValue) (known : List (List ℕ)) (found : List Placed) (groups : List (List (List Sign)))
    (action one other : List ℕ) → AreConcerned looked known (placed a) found → AreOpenGroups known looked.context found groups
    → access.requester ≡ looked.requester → Follows known looked.context access.context → Groups.AgreeOn groups (chars one) (chars other)
    → AreReadAlikeBy a access action one other
