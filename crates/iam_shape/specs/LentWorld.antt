-- What the lent view of a whole document says, as a plain record. LOGIC 12.1.
use Rattle.std.specs.Prelude.{option_map, map}
use Rattle.serde_json.specs.View.{view}
use Rattle.iam_shape.specs.View.{WorldViewValue}
use Rattle.iam_shape.specs.Lent.{account_of, principal_of, resource_of}
use Rattle.iam_shape.specs.declared.view.WorldView as lent

abbrev pub world_of : lent.WorldView → WorldViewValue
world_of world = record {
  moment = world.moment;
  accounts = map account_of world.accounts.views.items;
  principals = map principal_of world.principals.items;
  actions = map (λ action. action.now) world.actions.items;
  resources = map resource_of world.resources.items;
  context = option_map (λ context. view context.now) world.context;
}
