-- Which groups of patterns they are by which statements read an action, as one list: AWS IAM User Guide, "IAM JSON policy elements:
-- Action" and "NotAction". LOGIC 11.2.
use Rattle.std.specs.Prelude.{◌≡◌, ◌∷◌, [], ℕ, List, None, map}
use Rattle.std.specs.List.{AllZip, flat_map}
use Rattle.iam_glob.specs.declared.sign.Sign.{Sign}
use Rattle.iam_element.specs.Reading.{ActionElement}
use Rattle.iam_decision.specs.Applicable.{ApplicableValue}
use Rattle.iam_decision.specs.Matched.{Selects, placed}
use Rattle.iam_world.specs.World.{WorldValue}
use Rattle.iam_layers.specs.Unnamed.{AreUnnamedPolicies, IsThere}
use Rattle.iam_layers.specs.declared.unnamed.Unnamed.{Unnamed}
use Rattle.iam_every.specs.Names.{AreActionGroups}
use Rattle.iam_every.specs.OwnGroups.{AreFirsts}

-- the action elements of all statements, in place order
abbrev pub elements_of : ApplicableValue → List ActionElement
elements_of a = map (λ s. s.statement.action) (placed a)

-- the patterns of each action element of these policies, each distinct element once, at its first place
abbrev pub AreOwnActionGroups : List ApplicableValue → List (List (List Sign)) → Type 0
AreOwnActionGroups applicables groups =
    (elements : List ActionElement) × AreFirsts [] (flat_map elements_of applicables) elements
    × (groups ≡ map (λ element. element.patterns) elements)

-- no policies stand with the resource
pub record IsPlain (a : ApplicableValue) : Type 0 where
  pub control : a.control ≡ []
  pub resource : a.resource ≡ None

-- the first, and each further one where policies stand with the resource: the statements of the organisation and of the principal stand
-- in each
abbrev pub AreNeeded : List ApplicableValue → List ApplicableValue → Type 0
AreNeeded [] needed = needed ≡ []
AreNeeded (a ∷ applicables) needed = (rest : List ApplicableValue) × (needed ≡ a ∷ rest) × Selects (λ b. ¬ IsPlain b) applicables rest

-- these policies apply where principal p asks for such a resource, which is there
pub record ApplyTo (world : WorldValue) (p : ℕ) (unnamed : Unnamed) (a : ApplicableValue) : Type 0 where
  pub there : IsThere world unnamed
  pub policies : AreUnnamedPolicies world p unnamed a

-- the policies by which actions are told apart on resources of which these things are said
abbrev pub AreOwnPolicies : WorldValue → ℕ → List Unnamed → List ApplicableValue → Type 0
AreOwnPolicies world p said needed =
    (applicables : List ApplicableValue) × AllZip (ApplyTo world p) said applicables × AreNeeded applicables needed

-- they tell apart just what the action elements do
abbrev pub OwnActionGroupsAreGroups : Type 0
OwnActionGroupsAreGroups =
    (applicables : List ApplicableValue) (groups : List (List (List Sign)))
    → AreOwnActionGroups applicables groups → AreActionGroups applicables groups

-- they are one list
abbrev pub OneListOfActionGroups : Type 0
OneListOfActionGroups =
    (applicables : List ApplicableValue) (one other : List (List (List Sign)))
    → AreOwnActionGroups applicables one → AreOwnActionGroups applicables other → one ≡ other
