use Rattle.iam_shape.specs.LentWorld.{world_of}
use Rattle.iam_world.proofs.Clearing.{clear_4, clear_5, clear_6, clear_7}
use Rattle.iam_world.proofs.names.bad_name.Goals as goal

pub returns-in-Some : goal.returns-in-Some
returns-in-Some c = record {
  holds = c.in-Some.ensures;
  least = clear_4 (world_of c.args.world.now) c.args.requesters.now c.requires;
}

pub returns-in-Some-bad_resource : goal.returns-in-Some-bad_resource
returns-in-Some-bad_resource c =
    let world = world_of c.args.world.now in
    record { holds = c.in-Some-bad_resource.ensures; least = clear_5 world (clear_4 world c.args.requesters.now c.requires) c.in_default.ensures }

pub returns-in-Some-unknown_account : goal.returns-in-Some-unknown_account
returns-in-Some-unknown_account c =
    let world = world_of c.args.world.now in
    let four = clear_4 world c.args.requesters.now c.requires in
    record {
      holds = c.in-Some-unknown_account.ensures;
      least = clear_6 world (clear_5 world four c.in_default.ensures) c.in_default-bad_resource.ensures;
    }

pub returns : goal.returns
returns c =
    let world = world_of c.args.world.now in
    let four = clear_4 world c.args.requesters.now c.requires in
    clear_7 world (clear_6 world (clear_5 world four c.in_default.ensures) c.in_default-bad_resource.ensures) c.in_default-unknown_account.ensures
