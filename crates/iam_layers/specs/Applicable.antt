-- The policies of a world that apply to a request: AWS IAM User Guide, "Policy evaluation logic". LOGIC 10.1.
use Rattle.std.specs.Prelude.{List, [], Bool, false, Option, None, Some, if◌then◌else◌}
use Rattle.std.specs.Str.{bytes_eq}
use Rattle.iam_decision.specs.Applicable.{ApplicableValue}
use Rattle.iam_policy.specs.Reading.{PolicyValue}
use Rattle.iam_world.specs.World.{AccountValue, PrincipalValue, ResourceValue, WorldValue, account_with}

-- whether the account manages its organisation
abbrev pub manages : Option AccountValue → Bool
manages None = false
manages (Some account) = account.management

-- the organisation policies of the account
abbrev pub org_of : Option AccountValue → List (List PolicyValue)
org_of None = []
org_of (Some account) = account.org

-- the levels of policies, none where an account manages its organisation
abbrev pub levels_unless : Bool → List (List PolicyValue) → List (List PolicyValue)
levels_unless managing levels = if managing then [] else levels

-- what applies where this principal asks for this resource: an organisation binds the requesters of its accounts,
-- resource control policies bind whoever asks; neither binds where the account manages the organisation
abbrev pub applicable_of : WorldValue → PrincipalValue → ResourceValue → ApplicableValue
applicable_of world principal resource = record {
  org =
      levels_unless (manages (account_with principal.requester.account world)) (org_of (account_with principal.requester.account world));
  control = levels_unless (manages (account_with resource.account world)) resource.control;
  resource = resource.policy;
  identity = principal.identity;
  boundary = principal.boundary;
  session = principal.session;
  same_account = bytes_eq principal.requester.account resource.account;
  sealed = resource.sealed;
}
