-- Whose statements apply to a request: those of the organisation and of the requester are the same whatever it asks for, those
-- that stand with the resource whoever asks. And which resources are the same but for their ARN and their policy.
use Rattle.std.specs.Prelude.{◌≡◌, ℕ, [], Some, length}
use Rattle.std.specs.List.{slice_get}
use Rattle.iam_decision.specs.Applicable.{ApplicableValue}
use Rattle.iam_decision.specs.Code.Scan.{org_placed, requester_placed, resource_placed}
use Rattle.iam_world.specs.World.{ResourceValue, WorldValue}
use Rattle.iam_layers.specs.Cell.{IsApplicableAt}

abbrev pub RequestersKeepTheirs : Type 0
RequestersKeepTheirs =
    (world : WorldValue) (p r s : ℕ) (one other : ApplicableValue) → IsApplicableAt world p r one → IsApplicableAt world p s other
    → (org_placed one ≡ org_placed other) × (requester_placed one ≡ requester_placed other)

abbrev pub ResourcesKeepTheirs : Type 0
ResourcesKeepTheirs =
    (world : WorldValue) (p q r : ℕ) (one other : ApplicableValue) → IsApplicableAt world p r one → IsApplicableAt world q r other
    → resource_placed one ≡ resource_placed other

-- these two principals are bound by the same policies of the organisation
abbrev pub HaveSameOrg : WorldValue → ℕ → ℕ → Type 0
HaveSameOrg world p q =
    (r s : ℕ) (one other : ApplicableValue) → IsApplicableAt world p r one → IsApplicableAt world q s other → one.org ≡ other.org

-- the organisation that binds principal p has so many levels of policies, whatever it asks for
abbrev pub HasLevels : WorldValue → ℕ → ℕ → Type 0
HasLevels world p levels = (r : ℕ) (a : ApplicableValue) → IsApplicableAt world p r a → levels ≡ length a.org

-- no level of control policies and no key stands with the resource
pub record IsBare (resource : ResourceValue) : Type 0 where
  pub control : resource.control ≡ []
  pub context : resource.context ≡ []

-- these two resources are the same but for their ARN and their policy
pub record AreSameButPolicy (world : WorldValue) (r other : ℕ) : Type 0 where
  pub one : ResourceValue
  pub two : ResourceValue
  pub one_is : slice_get world.resources r ≡ Some one
  pub two_is : slice_get world.resources other ≡ Some two
  pub same : two ≡ record one { arn = two.arn; policy = two.policy }
