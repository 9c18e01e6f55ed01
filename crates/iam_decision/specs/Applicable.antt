-- The policies that apply to a request: AWS IAM User Guide, "Policy evaluation logic". LOGIC 10.1.
use Rattle.std.specs.Prelude.{◌<◌, ◌^◌, List, [], ◌∷◌, Bool, Option, false, true, map, option_map, length}
use Rattle.std.specs.List.{AllByRecursion}
use Rattle.std.specs.Option.{is_some}
use Rattle.iam_policy.specs.Reading.{PolicyValue}
use Rattle.iam_decision.specs.declared.applicable.Applicable.{Applicable}
use Rattle.iam_decision.specs.declared.frame.Frame.{Frame}

-- the applicable policies of a request, by layer, and what the decision asks of the accounts and the resource
pub record ApplicableValue : Type 0 where
  pub org : List (List PolicyValue)
  pub control : List (List PolicyValue)
  pub resource : Option PolicyValue
  pub identity : List PolicyValue
  pub boundary : Option PolicyValue
  pub session : List PolicyValue
  pub same_account : Bool
  pub sealed : Bool

-- there are such policies
abbrev pub has_policies : List PolicyValue → Bool
has_policies [] = false
has_policies (policy ∷ policies) = true

-- what the decision asks beside the statements
abbrev pub frame_of : ApplicableValue → Frame
frame_of a = record {
  org = length a.org;
  control = length a.control;
  boundary = is_some a.boundary;
  session = has_policies a.session;
  same_account = a.same_account;
  sealed = a.sealed;
}

-- the lent policies as values, without where they lie in memory
abbrev pub value_of : Applicable → ApplicableValue
value_of a = record {
  org = map (λ level. level.items) a.org.now;
  control = map (λ level. level.items) a.control.now;
  resource = option_map (λ policy. policy.now) a.resource;
  identity = a.identity.now;
  boundary = option_map (λ policy. policy.now) a.boundary;
  session = a.session.now;
  same_account = a.same_account;
  sealed = a.sealed;
}

-- the list has numbers of 32 bits
abbrev pub IsCountable : {X : Type 0} → List X → Type 0
IsCountable xs = length xs < 2 ^ 32

-- the levels and the policies of each level have numbers of 32 bits
pub record HasCountableLevels (levels : List (List PolicyValue)) : Type 0 where
  pub levels_count : IsCountable levels
  pub policies_count : AllByRecursion IsCountable levels

-- the lists of the applicable policies have numbers of 32 bits
pub record IsNumbered (a : ApplicableValue) : Type 0 where
  pub org : HasCountableLevels a.org
  pub control : HasCountableLevels a.control
  pub identity : IsCountable a.identity
  pub session : IsCountable a.session
