-- How accounts, principals and resources are put together of what was read.
use Rattle.std.specs.Prelude.{List, Option}
use Rattle.iam_context.specs.Context.{ContextValue}
use Rattle.iam_context.specs.Requester.{RequesterValue}
use Rattle.iam_policy.specs.Reading.{PolicyValue}
use Rattle.iam_shape.specs.View.{AccountViewValue, ResourceViewValue}
use Rattle.iam_world.specs.World.{AccountValue, PrincipalValue, ResourceValue}

abbrev pub made_account : AccountViewValue × List (List PolicyValue) → AccountValue
made_account p = record { id = p.0.id; management = p.0.management; org = p.1 }

abbrev pub made_principal :
    (((RequesterValue × List PolicyValue) × Option PolicyValue) × List PolicyValue) × ContextValue → PrincipalValue
made_principal p = record {
  requester = p.0.0.0.0;
  identity = p.0.0.0.1;
  boundary = p.0.0.1;
  session = p.0.1;
  context = p.1;
}

abbrev pub made_resource : ((ResourceViewValue × Option PolicyValue) × List (List PolicyValue)) × ContextValue → ResourceValue
made_resource p = record {
  arn = p.0.0.0.arn;
  account = p.0.0.0.account;
  policy = p.0.0.1;
  sealed = p.0.0.0.sealed;
  context = p.1;
  control = p.0.1;
}
