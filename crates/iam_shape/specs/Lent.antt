-- The lent parts of a document as plain records: what they say, without where it lies in memory. LOGIC 12.1.
use Rattle.std.specs.Prelude.{List, [], map, option_map, unwrap_or}
use Rattle.serde_json.specs.Data.{Data}
use Rattle.serde_json.specs.View.{view}
use Rattle.iam_json.specs.Look.{values}
use Rattle.iam_shape.specs.View.{AccountViewValue, PrincipalViewValue, ResourceViewValue}
use Rattle.iam_shape.specs.declared.levels.Levels.{Levels}
use Rattle.iam_shape.specs.declared.view.AccountView as lent_account
use Rattle.iam_shape.specs.declared.view.PrincipalView as lent_principal
use Rattle.iam_shape.specs.declared.view.ResourceView as lent_resource

-- the policies of a level: the values of its list
abbrev pub policies_in : Data → List Data
policies_in level = unwrap_or (values level) []

abbrev pub policies_by_level : Levels → List (List Data)
policies_by_level levels = map (λ level. policies_in (view level)) levels.values.now

abbrev pub account_of : lent_account.AccountView → AccountViewValue
account_of account = record {
  id = account.id.now;
  management = account.management;
  org = policies_by_level account.org;
}

abbrev pub principal_of : lent_principal.PrincipalView → PrincipalViewValue
principal_of principal = record {
  arn = principal.arn.now;
  session_name = option_map (λ name. name.now) principal.session_name;
  identity = map view principal.identity.now;
  boundary = option_map (λ policy. view policy.now) principal.boundary;
  session_policies = map view principal.session_policies.now;
  context = option_map (λ context. view context.now) principal.context;
}

abbrev pub resource_of : lent_resource.ResourceView → ResourceViewValue
resource_of resource = record {
  arn = resource.arn.now;
  account = resource.account.now;
  policy = option_map (λ policy. view policy.now) resource.policy;
  sealed = resource.sealed;
  context = option_map (λ context. view context.now) resource.context;
  control = policies_by_level resource.control;
}
